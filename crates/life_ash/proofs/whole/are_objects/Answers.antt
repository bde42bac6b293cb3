use Rattle.std.proofs.Common.{refl, sym, subst, ◌∙◌, true≢false, arith}
use Rattle.life_objects.specs.Ash.{IsObject}
use Rattle.life_apart.proofs.Pairs.{at_each, of_each}
use Rattle.life_ash.proofs.whole.are_objects.Goals as goal

pub returns-then-not-branch : goal.returns-then-not-branch
returns-then-not-branch g c = (
  λ t. absurd (true≢false (sym t)),
  λ all. sym c.if-not-branch.true ∙ c.in_ok-is_object.ensures.1
      (subst (λ o. IsObject c.args.rule.now c.args.bound o.set) (sym c.orbit-item.is)
      (at_each (IsObject c.args.rule.now c.args.bound) c.args.orbits.now all
      c.loop-orbit.orbit-index c.orbit-item.result c.loop-orbit-test.true)),
)

pub returns : goal.returns
returns g c = (
  λ t. of_each (IsObject c.args.rule.now c.args.bound) c.args.orbits.now
      (λ k e h. c.loop-orbit.invariant k e (omega arith)),
  λ all. refl,
)
