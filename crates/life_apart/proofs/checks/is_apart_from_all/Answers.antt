use Rattle.std.proofs.Common.{refl, sym, subst, true≢false, arith}
use Rattle.life_objects.specs.Apart.{AreApartForEver}
use Rattle.life_apart.proofs.Pairs.{at_each, of_each}
use Rattle.life_apart.proofs.checks.is_apart_from_all.Goals as goal

pub returns-then-not-is_apart_for_ever_from : goal.returns-then-not-is_apart_for_ever_from
returns-then-not-is_apart_for_ever_from c = (
  λ t. absurd (true≢false (sym t)),
  λ all. c.if-not-is_apart_for_ever_from.ensures.1
      (subst (λ o. AreApartForEver c.args.orbit.now.rule c.args.orbit.now.set o.set) (sym c.other-item.is)
      (at_each (AreApartForEver c.args.orbit.now.rule c.args.orbit.now.set) c.args.others.now all
      c.loop-other.other-index c.other-item.result c.loop-other-test.true)),
)

pub returns : goal.returns
returns c = (
  λ t. of_each (AreApartForEver c.args.orbit.now.rule c.args.orbit.now.set) c.args.others.now
      (λ k e h. c.loop-other.invariant k e (omega arith)),
  λ all. refl,
)
