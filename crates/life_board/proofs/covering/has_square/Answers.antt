use Rattle.std.proofs.Common.{◌≡◌, ℕ, pos, ◌+ℤ◌, ◌<◌, ◌≤◌, ⊎_elim, true≢false, refl, sym, subst, ap, ◌∙◌, below_more, arith}
use Rattle.std.specs.Int.{bit_at}
use Rattle.std.proofs.lemmas.Bool.{cases_lt}
use Rattle.std.proofs.lemmas.Int.{ints}
use Rattle.std.proofs.lemmas.Nat.Bits.{bit_at-zero}
use Rattle.life_model.specs.Cell.{Cell, opposite, plus}
use Rattle.life_model.proofs.Cells.{pair}
use Rattle.life_plane.specs.Area.{tile_cell}
use Rattle.life_slots.specs.Ends.{IsMember}
use Rattle.life_slots.proofs.EndCells.{one_is_not_none}
use Rattle.life_slots.proofs.Members.{BlockHas}
use Rattle.life_board.specs.Squares.{members_of}
use Rattle.life_board.proofs.States.{is_live, live_at}
use Rattle.life_board.proofs.covering.has_square.Goals as goal

pub loop-y-init : goal.loop-y-init
loop-y-init c = λ v before x wide live. absurd (one_is_not_none _ live (ap (λ w. bit_at w x) (c.requires.other.void.above v before) ∙ bit_at-zero x))

pub has_row-requires-clause-reach : goal.has_row-requires-clause-reach
has_row-requires-clause-reach c =
    let place = c.requires.other.place in
    let from = c.requires.from in
    let to = c.requires.to in
    let inside = c.requires.other.void.inside in
    let test = c.loop-y-test.true in
    let across = ap (λ (d : Cell). d.0) c.moved-corner.ensures.is in
    let down = ap (λ (d : Cell). d.1) c.moved-corner.ensures.is in
    record { west = omega (arith, ints, across); east = omega (arith, ints, across); north = omega (arith, ints, down); south = omega (arith, ints, down) }

pub returns-then-not-has_row : goal.returns-then-not-has_row
returns-then-not-has_row c = (
  λ never. absurd (true≢false (sym never)),
  λ all.
      let other = c.args.other.now in
      let place = c.requires.other.place in
      let from = c.requires.from in
      let to = c.requires.to in
      let end = c.requires.other.void.inside in
      let test = c.loop-y-test.true in
      let high : c.loop-y.y < 64 = omega arith in
      let across = ap (λ (d : Cell). d.0) c.moved-corner.ensures.is in
      let down = ap (λ (d : Cell). d.1) c.moved-corner.ensures.is in
      absurd
      (true≢false
      (sym
      (c.has_row.ensures.1
      (record {
        each = λ j small one.
            subst (IsMember (members_of c.args.square.now)) (pair (omega (arith, ints, across)) (omega (arith, ints, down)))
            (all (c.args.other.now.left +ℤ pos j, c.args.other.now.top +ℤ pos c.loop-y.y) (is_live other.left other.top other.tile j c.loop-y.y small high one));
      }))
      ∙ c.if-not-has_row.true)),
)

pub loop-y-preserved : goal.loop-y-preserved
loop-y-preserved c =
    let by : Cell = plus c.args.to (opposite c.args.from) in
    let place = c.requires.other.place in
    let from = c.requires.from in
    let to = c.requires.to in
    let end = c.requires.other.void.inside in
    let test = c.loop-y-test.true in
    let across = ap (λ (d : Cell). d.0) c.moved-corner.ensures.is in
    let down = ap (λ (d : Cell). d.1) c.moved-corner.ensures.is in
    below_more
    (λ v. (x : ℕ) → x < 64 → tile_cell c.args.other.now.tile x v ≡ 1 → IsMember (members_of c.args.square.now) (plus (c.args.other.now.left +ℤ pos x, c.args.other.now.top +ℤ pos v) by))
    c.loop-y.y c.loop-y.invariant
    (λ x wide live. subst (IsMember (members_of c.args.square.now)) (pair (omega (arith, ints, across)) (omega (arith, ints, down))) ((c.has_row.ensures.0 c.if-not-has_row.false).each x wide live))

pub returns : goal.returns
returns c = (
  λ holds q live.
      let by : Cell = plus c.args.to (opposite c.args.from) in
      let h : BlockHas c.args.other.now.left c.args.other.now.top c.args.other.now.tile.rows 64 q =
      live_at c.args.other.now.left c.args.other.now.top c.args.other.now.tile q live in
      let done : h.i < c.loop-y.y =
      ⊎_elim (λ (before : h.i < c.loop-y.y). before)
      (λ (past : c.loop-y.y ≤ h.i).
      let over : c.args.other.now.end ≤ c.loop-y.y = c.loop-y-test.false in
      absurd
      (one_is_not_none _ h.row.set_bit (ap (λ w. bit_at w h.row.j) (c.requires.other.void.below h.i (omega arith) h.inside) ∙ bit_at-zero h.row.j)))
      (cases_lt h.i c.loop-y.y) in
      subst (λ (d : Cell). IsMember (members_of c.args.square.now) (plus d by)) (sym h.row.is) (c.loop-y.invariant h.i done h.row.j h.row.inside h.row.set_bit),
  λ all. refl,
)
