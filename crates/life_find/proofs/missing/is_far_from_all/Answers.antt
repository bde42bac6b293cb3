use Rattle.std.proofs.Common.{pos, slice_index_or, subst, below_more}
use Rattle.std.proofs.lemmas.List.{get_or_default}
use Rattle.life_model.specs.Cell.{Cell, opposite, plus}
use Rattle.life_find.specs.Quiet.{IsReachedBy}
use Rattle.life_find.proofs.missing.is_far_from_all.Goals as goal

pub loop-other-preserved : goal.loop-other-preserved
loop-other-preserved c =
    let there : Cell = plus c.args.cell (plus c.args.to (opposite c.args.from)) in
    λ k d less.
    below_more (λ n. (e : Cell) → IsReachedBy (pos c.args.reach) there (slice_index_or c.args.cells.now n e) → ⊥) c.loop-other.other-index
    (λ n small e. c.loop-other.invariant n e small)
    (λ e near. c.is_far.ensures c.if-not-is_far.false
    (subst (λ (b : Cell). IsReachedBy (pos c.args.reach) there b) (get_or_default c.args.cells.now c.loop-other.other-index e (pos 0, pos 0) c.loop-other-test.true) near))
    k less d
