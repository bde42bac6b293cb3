use Rattle.std.proofs.Common.{◌≡◌, ℕ, ◌<◌, pos, ◌+ℤ◌, true≢false, refl, sym, subst, ap, ◌∙◌, below_more, arith}
use Rattle.std.proofs.lemmas.Int.{ints}
use Rattle.life_model.specs.Cell.{Cell, opposite, plus}
use Rattle.life_model.proofs.Cells.{pair}
use Rattle.life_plane.specs.Area.{tile_cell}
use Rattle.life_slots.specs.Ends.{IsMember}
use Rattle.life_tile.specs.TileStores.{members_of}
use Rattle.life_tile.proofs.covering.has_tile.Goals as goal

pub returns-then-not-has_row : goal.returns-then-not-has_row
returns-then-not-has_row c = (
  λ never. absurd (true≢false (sym never)),
  λ inside.
      let across = ap (λ (d : Cell). d.0) c.moved-start.ensures.is in
      let down = ap (λ (d : Cell). d.1) c.moved-start.ensures.is in
      absurd
      (true≢false
      (sym
      (c.has_row.ensures.1
      (record {
        each = λ j small one.
            let there : ◌≡◌ {A = Cell} (plus (c.args.corner.0 +ℤ pos j, c.args.corner.1 +ℤ pos c.loop-y.y) (plus c.args.to (opposite c.args.from))) (c.moved-start.result.0 +ℤ pos j, c.moved-start.result.1) =
            pair (omega (arith, ints, across)) (omega (arith, ints, down)) in
            subst (IsMember (members_of c.args.store.now)) there (inside.each j c.loop-y.y small c.loop-y-test.true one);
      }))
      ∙ c.if-not-has_row.true)),
)

pub loop-y-preserved : goal.loop-y-preserved
loop-y-preserved c =
    let by : Cell = plus c.args.to (opposite c.args.from) in
    below_more
    (λ v. (x : ℕ) → x < 64 → tile_cell c.args.tile.now x v ≡ 1 → IsMember (members_of c.args.store.now) (plus (c.args.corner.0 +ℤ pos x, c.args.corner.1 +ℤ pos v) by))
    c.loop-y.y c.loop-y.invariant
    (λ x wide live.
    let across = ap (λ (d : Cell). d.0) c.moved-start.ensures.is in
    let down = ap (λ (d : Cell). d.1) c.moved-start.ensures.is in
    let there : ◌≡◌ {A = Cell} (c.moved-start.result.0 +ℤ pos x, c.moved-start.result.1) (plus (c.args.corner.0 +ℤ pos x, c.args.corner.1 +ℤ pos c.loop-y.y) (plus c.args.to (opposite c.args.from))) =
    pair (omega (arith, ints, across)) (omega (arith, ints, down)) in
    subst (IsMember (members_of c.args.store.now)) there ((c.has_row.ensures.0 c.if-not-has_row.false).each x wide live))

pub returns : goal.returns
returns c = (
  λ holds. record { each = λ x y wide high live. c.loop-y.invariant y (omega arith) x wide live },
  λ inside. refl,
)
