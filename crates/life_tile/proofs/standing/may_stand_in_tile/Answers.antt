use Rattle.std.proofs.Common.{◌≡◌, pos, ◌+ℤ◌, w32, to_z, of_z, subst, ap, ◌∙◌, below_more, slice_index, arith}
use Rattle.std.proofs.lemmas.Int.{ints}
use Rattle.life_model.specs.Cell.{Cell, origin}
use Rattle.life_model.proofs.Cells.{pair}
use Rattle.life_slots.specs.Cells.{state_at}
use Rattle.life_tile.specs.Standing.{HasNoneInRow}
use Rattle.life_tile.specs.TileStores.{members_of}
use Rattle.life_tile.proofs.Listed.{no_bit}
use Rattle.life_tile.proofs.standing.may_stand_in_tile.Goals.{else-word-ne0-via-then-word-ne0+else-may_stand_in_row, else-word-ne0-via-else-word-ne0}
use Rattle.life_tile.proofs.standing.may_stand_in_tile.Goals as goal

pub returns-then-not-is_near : goal.returns-then-not-is_near
returns-then-not-is_near c = λ told. record {
  none = λ x y d wide high live within led all.
      let first = c.requires.placed c.args.lead origin c.requires.lead in
      let across = ap (λ (e : Cell). e.0) led in
      c.is_near.ensures c.if-not-is_near.true x d.0 wide within.left within.right (omega (arith, ints, first.left, first.right, across));
}

pub returns-then-not-is_near-2 : goal.returns-then-not-is_near-2
returns-then-not-is_near-2 c = λ told. record {
  none = λ x y d wide high live within led all.
      let first = c.requires.placed c.args.lead origin c.requires.lead in
      let down = ap (λ (e : Cell). e.1) led in
      c.is_near-2.ensures c.if-not-is_near-2.true y d.1 high within.above within.below (omega (arith, ints, first.above, first.below, down));
}

pub returns-then-is_void : goal.returns-then-is_void
returns-then-is_void c = λ told. record {
  none = λ x y d wide high live within led all.
      let dead = (c.is_void.ensures.void c.if-is_void.true).dead x y wide high in
      absurd (omega arith);
}

pub may_stand_in_row-requires-clause-row : goal.may_stand_in_row-requires-clause-row
may_stand_in_row-requires-clause-row c = λ j inside.
    let across : c.args.corner.0 ≡ to_z w32 (of_z w32 c.args.corner.0) = omega (arith, ints) in
    let down : (c.args.corner.1 +ℤ pos c.loop-y.y) ≡ to_z w32 (of_z w32 (to_z w32 (of_z w32 c.args.corner.1) +ℤ to_z w32 c.loop-y.y)) = omega (arith, ints) in
    c.requires.shown j c.loop-y.y inside c.loop-y-test.true ∙ (λ i. state_at (members_of c.args.store.now) (across i +ℤ pos j) (down i))

pub loop-y-preserved : goal.loop-y-preserved
loop-y-preserved c =
    below_more (λ v. HasNoneInRow (members_of c.args.store.now) c.args.cells.now c.args.lead (slice_index c.args.tile.now.rows v) (c.args.corner.0, c.args.corner.1 +ℤ pos v))
    c.loop-y.y c.loop-y.invariant
    (elim c.else-word-ne0.branch [
      | else-word-ne0-via-then-word-ne0+else-may_stand_in_row w ↦
          subst (HasNoneInRow (members_of c.args.store.now) c.args.cells.now c.args.lead (slice_index c.args.tile.now.rows c.loop-y.y))
          (pair (omega (arith, ints)) (omega (arith, ints))) (w.may_stand_in_row.ensures w.if-may_stand_in_row.false)
      | else-word-ne0-via-else-word-ne0 w ↦ record { none = λ j d inside one led all. no_bit _ j w.if-word-ne0.false one }
    ])

pub returns : goal.returns
returns c = λ told. record {
  none = λ x y d wide high live within led all. (c.loop-y.invariant y (omega arith)).none x d wide live led all;
}
