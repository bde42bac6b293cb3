use Rattle.std.proofs.Common.{suc, ◌+◌, ◌-◌, length, get_or, ap, ◌∙◌, add-one, arith}
use Rattle.std.proofs.lemmas.List.{length-replicate, length-set}
use Rattle.life_tracks.specs.Frames.Frames.{classes_at, parents_at}
use Rattle.life_tracks.specs.Films.{last_of}
use Rattle.life_tracks.proofs.Ancestors.{ancestor-within}
use Rattle.life_tracks.proofs.Placing.{last_place, more_places, next_is}
use Rattle.life_tracks.proofs.reading.line_places.Goals as goal

pub loop-back-init : goal.loop-back-init
loop-back-init c =
    let n = c.args.end.generation in
    let copies = c.in_ok-places.ensures.items_if_clones_equal (λ y e. e) in
    record {
      count = ap length copies ∙ length-replicate (n + 1) c.args.end.place ∙ add-one n;
      each = last_place (parents_at c.args.film.now) n c.args.end.place c.in_ok-places.places.items copies;
    }

pub parent_of-parent-requires : goal.parent_of-parent-requires
parent_of-parent-requires c =
    let film = c.args.film.now in
    let n = c.args.end.generation in
    let k = c.args.end.place in
    let back = c.loop-back.back in
    let some = c.loop-back-test.true in
    let start = c.requires.film.some in
    let within = c.requires.end.within in
    let t = n - 1 - back in
    let linked = c.requires.film.linked in
    let next = next_is (parents_at film) n k c.loop-back.places.items back some c.loop-back.invariant.count
    c.loop-back.invariant.each c.index.result.now c.index.ensures in
    let inside = ancestor-within (parents_at film) (classes_at film) (last_of film) linked n k (suc t) within
    c.requires.end.place (omega arith) in
    let long = linked.count t (omega arith) in
    let same = ap length (c.parents.ensures.lent (omega arith)) in
    omega arith

pub loop-back-preserved : goal.loop-back-preserved
loop-back-preserved c =
    let film = c.args.film.now in
    let n = c.args.end.generation in
    let back = c.loop-back.back in
    let places = c.loop-back.places.items in
    let some = c.loop-back-test.true in
    let start = c.requires.film.some in
    let within = c.requires.end.within in
    let x = c.index.result.now in
    let v = c.parent_of-parent.result in
    record {
      count = length-set places (n - 1 - back) v ∙ c.loop-back.invariant.count;
      each = more_places (parents_at film) n c.args.end.place places back some c.loop-back.invariant.count
          c.loop-back.invariant.each x v c.index.ensures
          (c.parent_of-parent.ensures ∙ ap (λ ps. get_or ps x 0) (c.parents.ensures.lent (omega arith)));
    }
