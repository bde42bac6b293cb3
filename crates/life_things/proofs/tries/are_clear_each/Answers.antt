use Rattle.std.proofs.Common.{◌≡◌, inl, inr, refl, sym, subst, true≢false, arith}
use Rattle.std.proofs.lemmas.Bool.{cases_lt}
use Rattle.life_things.specs.Tries.{ClearAfter}
use Rattle.life_things.proofs.tries.are_clear_each.Goals as goal

pub loop-count-preserved : goal.loop-count-preserved
loop-count-preserved c n after before =
    elim (cases_lt n c.loop-count.count) [
      | inl earlier ↦ c.loop-count.invariant n after earlier
      | inr later ↦
          subst (ClearAfter c.args.one.now c.args.other.now c.args.tries)
          (let z : c.loop-count.count ≡ n = omega arith in z) (c.if-not-is_clear_after.ensures.0 refl)
    ]

pub returns-then-not-is_clear_after : goal.returns-then-not-is_clear_after
returns-then-not-is_clear_after c = (
  λ t. absurd (true≢false (sym t)),
  λ clear. c.if-not-is_clear_after.ensures.1 (clear c.loop-count.count (omega arith) (omega arith)),
)

pub returns : goal.returns
returns c = (λ t n late early. c.loop-count.invariant n late (omega arith), λ clear. refl)
