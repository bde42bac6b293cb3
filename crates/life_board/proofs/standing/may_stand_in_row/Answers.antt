use Rattle.std.proofs.Common.{◌≡◌, ap, ◌∙◌, arith}
use Rattle.std.specs.Int.{bit_at}
use Rattle.std.proofs.lemmas.Int.{ints}
use Rattle.std.proofs.lemmas.Nat.Bits.{bit_at_and}
use Rattle.life_model.specs.Cell.{Cell, origin}
use Rattle.life_model.specs.Generation.{contains}
use Rattle.life_model.proofs.Cells.{pair}
use Rattle.life_plane.specs.Flags.{as_bit}
use Rattle.life_tile.proofs.Listed.{no_bit, no_bit_told}
use Rattle.life_board.specs.Squares.{members_of}
use Rattle.life_board.proofs.standing.may_stand_in_row.Goals as goal

pub row_from-left-requires-clause-reach : goal.row_from-left-requires-clause-reach
row_from-left-requires-clause-reach c =
    let place = c.requires.kept.place in
    let from = c.requires.placed 0 origin c.requires.some in
    let to = c.requires.placed c.loop-n.n origin c.loop-n-test.true in
    let high = c.requires.y in
    let across = ap (λ (e : Cell). e.0) c.moved-corner.ensures.is in
    let down = ap (λ (e : Cell). e.1) c.moved-corner.ensures.is in
    record { west = omega (arith, ints, across); east = omega (arith, ints, across); north = omega (arith, ints, down); south = omega (arith, ints, down) }

pub returns-then-left-eq0 : goal.returns-then-left-eq0
returns-then-left-eq0 c = λ told. record {
  none = λ j d inside one led all. no_bit _ j c.if-left-eq0.true (c.loop-n.invariant j d inside one led all);
}

pub loop-n-preserved : goal.loop-n-preserved
loop-n-preserved c = λ j d inside one led all.
    let place = c.requires.kept.place in
    let from = c.requires.placed 0 origin c.requires.some in
    let to = c.requires.placed c.loop-n.n origin c.loop-n-test.true in
    let high = c.requires.y in
    let across = ap (λ (e : Cell). e.0) led in
    let down = ap (λ (e : Cell). e.1) led in
    let to_across = ap (λ (e : Cell). e.0) c.moved-corner.ensures.is in
    let to_down = ap (λ (e : Cell). e.1) c.moved-corner.ensures.is in
    let here : bit_at c.row_from-left.result j ≡ 1 =
    c.row_from-left.ensures j inside
    ∙ ap (λ (e : Cell). as_bit (contains (members_of c.args.square.now) e)) (pair (omega (arith, ints, across, to_across)) (omega (arith, ints, down, to_down)))
    ∙ ap as_bit (all c.loop-n.n origin c.loop-n-test.true) in
    let before = c.loop-n.invariant j d inside one led all in
    bit_at_and c.loop-n.left c.row_from-left.result j ∙ omega arith

pub returns : goal.returns
returns c = λ told. record {
  none = λ j d inside one led all. no_bit_told _ j told (c.loop-n.invariant j d inside one led all);
}
