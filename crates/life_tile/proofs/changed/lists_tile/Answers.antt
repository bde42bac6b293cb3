use Rattle.std.proofs.Common.{◌≡◌, pos, ◌+ℤ◌, subst, ap, arith}
use Rattle.std.proofs.lemmas.Int.{ints}
use Rattle.life_model.specs.Cell.{Cell, opposite, plus}
use Rattle.life_model.specs.Generation.{from_list}
use Rattle.life_model.proofs.Cells.{pair}
use Rattle.life_slots.specs.Ends.{IsMember}
use Rattle.life_tile.proofs.changed.lists_tile.Goals as goal

pub returns-then-not-lists_row : goal.returns-then-not-lists_row
returns-then-not-lists_row c = λ _ inside.
    let across = ap (λ (d : Cell). d.0) c.moved-start.ensures.is in
    let down = ap (λ (d : Cell). d.1) c.moved-start.ensures.is in
    c.lists_row.ensures c.if-not-lists_row.true
    (record {
      each = λ j small one.
          let there : ◌≡◌ {A = Cell} (plus (c.args.corner.0 +ℤ pos j, c.args.corner.1 +ℤ pos c.loop-y.y) (plus c.args.to (opposite c.args.from))) (c.moved-start.result.0 +ℤ pos j, c.moved-start.result.1) =
          pair (omega (arith, ints, across)) (omega (arith, ints, down)) in
          subst (IsMember (from_list c.args.cells.now)) there (inside.each j c.loop-y.y small c.loop-y-test.true one);
    })
