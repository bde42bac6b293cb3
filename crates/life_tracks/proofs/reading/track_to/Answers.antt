use Rattle.std.proofs.Common.{length, ap, ◌∙◌, arith}
use Rattle.std.proofs.lemmas.List.{get_or_default}
use Rattle.life_tracks.specs.Frames.Frames.{classes_at, parents_at}
use Rattle.life_tracks.specs.Films.{last_of}
use Rattle.life_tracks.proofs.Ancestors.{ancestor-within}
use Rattle.life_tracks.proofs.reading.track_to.Goals as goal

pub class_in-requires : goal.class_in-requires
class_in-requires c =
    let film = c.args.film.now in
    let n = c.args.end.generation in
    let k = c.args.end.place in
    let on = c.in_ok-places.ensures in
    let long = on.count in
    let first = c.index.ensures ∙ get_or_default c.in_ok-places.places.items 0 c.index.result.now 0 (omega arith)
    ∙ on.each 0 (omega arith) in
    let inside = ancestor-within (parents_at film) (classes_at film) (last_of film) c.requires.film.linked n k 0
    c.requires.end.within c.requires.end.place (omega arith) in
    let same = ap length (c.classes-classes.ensures.lent c.requires.film.some) in
    omega arith
