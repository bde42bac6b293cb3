use Rattle.std.proofs.Common.{refl, sym, true≢false, arith}
use Rattle.std.proofs.lemmas.Int.{ints}
use Rattle.life_model.specs.Cell.{plus}
use Rattle.life_orbit.proofs.Rows.{clear_from_free, free_from_clear, free_more}
use Rattle.life_orbit.proofs.near.is_clear_of.Goals as goal

pub loop-step-init : goal.loop-step-init
loop-step-init c k h = absurd (omega arith)

pub loop-step-preserved : goal.loop-step-preserved
loop-step-preserved c =
    free_more (plus c.args.cell c.args.by) c.loop-step.step c.args.others.now _ _ _ (omega (arith, ints)) (omega (arith, ints))
    (omega (arith, ints)) c.loop-step.invariant (c.if-not-is_free.ensures.0 refl)

pub returns-then-not-is_free : goal.returns-then-not-is_free
returns-then-not-is_free c = (
  λ t. absurd (true≢false (sym t)),
  λ clear. c.if-not-is_free.ensures.1
      (free_from_clear (plus c.args.cell c.args.by) c.loop-step.step c.args.others.now _ _ _ (omega arith) (omega (arith, ints))
      (omega (arith, ints)) (omega (arith, ints)) clear),
)

pub returns : goal.returns
returns c = (
  λ t. clear_from_free (plus c.args.cell c.args.by) c.args.others.now (λ k h. c.loop-step.invariant k (omega arith)),
  λ clear. refl,
)
