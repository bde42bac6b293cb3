use Rattle.std.proofs.Common.{pos, slice_index_or, true≢false, sym, ap, ◌∙◌, below_more}
use Rattle.std.proofs.lemmas.List.{get_or_default}
use Rattle.life_model.specs.Cell.{Cell, opposite, plus}
use Rattle.life_model.specs.Generation.{contains}
use Rattle.life_slots.specs.Ends.{IsMember}
use Rattle.life_board.specs.Squares.{members_of}
use Rattle.life_board.proofs.covering.are_live.Goals as goal

pub returns-then-not-is_live : goal.returns-then-not-is_live
returns-then-not-is_live c = (
  λ never. absurd (true≢false (sym never)),
  λ all.
      absurd
      (true≢false
      (sym (all c.loop-cell.cell-index (pos 0, pos 0) c.loop-cell-test.true) ∙ ap (contains (members_of c.args.square.now)) (sym c.moved.ensures.is)
      ∙ sym c.is_live.ensures ∙ c.if-not-is_live.true)),
)

pub loop-cell-preserved : goal.loop-cell-preserved
loop-cell-preserved c =
    let by : Cell = plus c.args.to (opposite c.args.from) in
    λ k d less.
    below_more (λ n. (e : Cell) → IsMember (members_of c.args.square.now) (plus (slice_index_or c.args.cells.now n e) by)) c.loop-cell.cell-index
    (λ n small e. c.loop-cell.invariant n e small)
    (λ e.
    ap (λ b. contains (members_of c.args.square.now) (plus b by)) (get_or_default c.args.cells.now c.loop-cell.cell-index e (pos 0, pos 0) c.loop-cell-test.true)
    ∙ ap (contains (members_of c.args.square.now)) (sym c.moved.ensures.is) ∙ sym c.is_live.ensures ∙ c.if-not-is_live.false)
    k less d
