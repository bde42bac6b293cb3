use Rattle.std.proofs.Common.{arith}
use Rattle.std.proofs.lemmas.Int.{ints}
use Rattle.life_tracks.proofs.FramesLemmas.Beside.{bearer_by, bearer_itself, near_above, near_below, near_level, no_bearer, not_there}
use Rattle.life_tracks.proofs.frames.bearers.bearer.Goals as goal

pub returns-in-Some : goal.returns-in-Some
returns-in-Some c =
    let number = c.place_number-number.ensures.number in
    let least = c.place_number-number.ensures.low in
    let most = c.place_number-number.ensures.high in
    bearer_itself c.args.list.now c.as_slice-all.result.now c.as_slice-all.ensures.cells c.as_slice-all.ensures.placed c.args.cell
    c.requires.placed _ _ c.in-Some.at (omega (arith, ints)) (omega (arith, ints)) c.in-Some.ensures.some

pub returns-in-Some-first_in_row : goal.returns-in-Some-first_in_row
returns-in-Some-first_in_row c =
    let number = c.place_number-number.ensures.number in
    let least = c.place_number-number.ensures.low in
    let most = c.place_number-number.ensures.high in
    let never = not_there c.args.list.now c.as_slice-all.result.now c.as_slice-all.ensures.cells c.as_slice-all.ensures.placed
    c.args.cell c.requires.placed _ _ (omega (arith, ints)) (omega (arith, ints)) c.in_default.ensures.none in
    bearer_by c.args.list.now c.as_slice-all.result.now c.as_slice-all.ensures.cells c.as_slice-all.ensures.placed c.args.cell
    c.requires.placed _ _ c.in-Some-first_in_row.at
    (λ g q from to. near_level c.args.cell g c.requires.placed q _ _ from to (omega (arith, ints)) (omega (arith, ints)))
    never c.in-Some-first_in_row.ensures.some

pub returns-in-Some-first_in_row-2 : goal.returns-in-Some-first_in_row-2
returns-in-Some-first_in_row-2 c =
    let number = c.place_number-number.ensures.number in
    let least = c.place_number-number.ensures.low in
    let most = c.place_number-number.ensures.high in
    let never = not_there c.args.list.now c.as_slice-all.result.now c.as_slice-all.ensures.cells c.as_slice-all.ensures.placed
    c.args.cell c.requires.placed _ _ (omega (arith, ints)) (omega (arith, ints)) c.in_default.ensures.none in
    bearer_by c.args.list.now c.as_slice-all.result.now c.as_slice-all.ensures.cells c.as_slice-all.ensures.placed c.args.cell
    c.requires.placed _ _ c.in-Some-first_in_row-2.at
    (λ g q from to. near_above c.args.cell g c.requires.placed q _ _ from to (omega (arith, ints)) (omega (arith, ints)))
    never c.in-Some-first_in_row-2.ensures.some

pub returns-in-Some-first_in_row-3 : goal.returns-in-Some-first_in_row-3
returns-in-Some-first_in_row-3 c =
    let number = c.place_number-number.ensures.number in
    let least = c.place_number-number.ensures.low in
    let most = c.place_number-number.ensures.high in
    let never = not_there c.args.list.now c.as_slice-all.result.now c.as_slice-all.ensures.cells c.as_slice-all.ensures.placed
    c.args.cell c.requires.placed _ _ (omega (arith, ints)) (omega (arith, ints)) c.in_default.ensures.none in
    bearer_by c.args.list.now c.as_slice-all.result.now c.as_slice-all.ensures.cells c.as_slice-all.ensures.placed c.args.cell
    c.requires.placed _ _ c.in-Some-first_in_row-3.at
    (λ g q from to. near_below c.args.cell g c.requires.placed q _ _ from to (omega (arith, ints)) (omega (arith, ints)))
    never c.in-Some-first_in_row-3.ensures.some

pub returns : goal.returns
returns c =
    let number = c.place_number-number.ensures.number in
    let least = c.place_number-number.ensures.low in
    let most = c.place_number-number.ensures.high in
    absurd (no_bearer c.args.list.now c.as_slice-all.result.now c.as_slice-all.ensures.cells c.as_slice-all.ensures.placed
    c.args.cell c.requires.placed _ _ _ _ _ _ (omega (arith, ints)) (omega (arith, ints)) (omega (arith, ints))
    (omega (arith, ints)) (omega (arith, ints)) (omega (arith, ints)) c.in_default-first_in_row.ensures.none
    c.in_default-first_in_row-2.ensures.none c.in_default-first_in_row-3.ensures.none c.requires.touched)
