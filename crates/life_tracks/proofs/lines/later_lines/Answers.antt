use Rattle.std.proofs.Common.{suc, ◌<◌, length, get_or, ap, subst, ◌∙◌, add-one, arith}
use Rattle.std.proofs.lemmas.List.{length_push}
use Rattle.life_model.specs.Generation.{empty}
use Rattle.life_tracks.specs.Frames.Frames.{classes_at, parents_at}
use Rattle.life_tracks.specs.declared.lines.Line.{Line}
use Rattle.life_tracks.specs.Films.{last_of}
use Rattle.life_tracks.specs.Lines.{GoesOn, IsLine}
use Rattle.life_tracks.proofs.Adding.{no_line}
use Rattle.life_tracks.proofs.Later.{line_later, origin_within}
use Rattle.life_tracks.proofs.Pushing.{each_more}
use Rattle.life_tracks.proofs.lines.later_lines.Goals as goal

pub class_in-requires : goal.class_in-requires
class_in-requires c =
    let film = c.args.film.now in
    let t = c.args.t in
    let some = c.requires.film.some in
    let within : t < last_of film = c.requires.within in
    origin_within (classes_at film) (parents_at film) (last_of film) t c.requires.film.linked within c.args.lines.now
    c.requires.lines c.classes-firsts.result.now c.classes-classes.result.now c.parents-parents.result.now
    (c.classes-firsts.ensures.lent some)
    (c.classes-classes.ensures.lent (omega arith) ∙ ap (classes_at film) (add-one t))
    (c.parents-parents.ensures.lent (omega arith)) c.loop-place.place c.loop-place-test.true no_line

pub loop-place-preserved : goal.loop-place-preserved
loop-place-preserved c =
    let film = c.args.film.now in
    let t = c.args.t in
    let some = c.requires.film.some in
    let within : t < last_of film = c.requires.within in
    let place = c.loop-place.place in
    let firsts = c.classes-firsts.result.now in
    let classes = c.classes-classes.result.now in
    let parents = c.parents-parents.result.now in
    let old = c.loop-place.later.items in
    let line = c.line_on.result in
    let before = c.loop-place.invariant.count in
    let long = ap length c.in_ok-push.ensures.items ∙ length_push old line in
    let start : Line = get_or c.args.lines.now (get_or parents place 0) no_line in
    record {
      count = omega arith;
      each = each_more old c.push.new.self.items line place before c.in_ok-push.ensures.items
          (IsLine (classes_at film) (parents_at film) (suc t)) c.loop-place.invariant.each
          (line_later (classes_at film) (parents_at film) (last_of film) t c.requires.film.linked within c.args.lines.now
          c.requires.lines firsts classes parents
          (c.classes-firsts.ensures.lent some)
          (c.classes-classes.ensures.lent (omega arith) ∙ ap (classes_at film) (add-one t))
          (c.parents-parents.ensures.lent (omega arith)) place c.loop-place-test.true no_line line
          (subst (λ G. GoesOn parents G (get_or classes place empty) place start line) c.class_in.ensures
          (subst (λ G. GoesOn parents c.class_in.result.now G place start line) c.class_in-in-loop-place.ensures
          c.line_on.ensures)));
    }

pub returns : goal.returns
returns c =
    let film = c.args.film.now in
    let t = c.args.t in
    let within : t < last_of film = c.requires.within in
    let same = ap length (c.classes-classes.ensures.lent (omega arith) ∙ ap (classes_at film) (add-one t)) in
    let count = c.loop-place.invariant.count in
    let past = c.loop-place-test.false in
    let low = c.loop-place.auto.place-end in
    record { count = omega arith; each = λ k d h. c.loop-place.invariant.each k d (omega arith) }
