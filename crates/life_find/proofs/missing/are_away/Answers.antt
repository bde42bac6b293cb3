use Rattle.std.proofs.Common.{pos, slice_index_or, sym, subst, below_more}
use Rattle.std.proofs.lemmas.List.{get_or_default}
use Rattle.life_model.specs.Cell.{Cell, origin, opposite, plus}
use Rattle.life_find.specs.Quiet.{IsMissed}
use Rattle.life_find.proofs.missing.are_away.Goals as goal

pub loop-to-preserved : goal.loop-to-preserved
loop-to-preserved c =
    let back : Cell = opposite (slice_index_or c.args.listed.now 0 origin) in
    λ k d less.
    below_more (λ n. (e : Cell) → IsMissed (pos c.args.reach) c.args.listed.now c.args.cells.now (plus (slice_index_or c.args.cells.now n e) back)) c.loop-to.to-index
    (λ n small e. c.loop-to.invariant n e small)
    (λ e. subst (λ (b : Cell). IsMissed (pos c.args.reach) c.args.listed.now c.args.cells.now (plus b back))
    (sym (get_or_default c.args.cells.now c.loop-to.to-index e (pos 0, pos 0) c.loop-to-test.true)) (c.one_is_missed.ensures c.if-not-one_is_missed.false))
    k less d
