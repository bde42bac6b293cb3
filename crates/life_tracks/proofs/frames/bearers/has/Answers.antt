use Rattle.std.proofs.Common.{sym, arith}
use Rattle.std.proofs.lemmas.Bool.{false_from_ne_true}
use Rattle.std.proofs.lemmas.Int.{ints}
use Rattle.life_tracks.proofs.FramesLemmas.Beside.{not_there, there_by_number}
use Rattle.life_tracks.proofs.frames.bearers.has.Goals as goal

pub returns-in-Some : goal.returns-in-Some
returns-in-Some c =
    let number = c.place_number-number.ensures.number in
    let least = c.place_number-number.ensures.low in
    let most = c.place_number-number.ensures.high in
    sym (there_by_number c.args.list.now c.as_slice.result.now c.as_slice.ensures.cells c.as_slice.ensures.placed c.args.cell
    c.requires _ _ c.in-Some.field-0 (omega (arith, ints)) (omega (arith, ints)) c.in-Some.ensures.some)

pub returns-in-None : goal.returns-in-None
returns-in-None c =
    let number = c.place_number-number.ensures.number in
    let least = c.place_number-number.ensures.low in
    let most = c.place_number-number.ensures.high in
    sym (false_from_ne_true _ (not_there c.args.list.now c.as_slice.result.now c.as_slice.ensures.cells c.as_slice.ensures.placed
    c.args.cell c.requires _ _ (omega (arith, ints)) (omega (arith, ints)) c.in-None.ensures.none))
