use Rattle.std.proofs.Common.{◌≡◌, refl, ap, sym, subst, ◌∙◌, true≢false, arith}
use Rattle.std.specs.List.{All}
use Rattle.std.proofs.Common.{take}
use Rattle.life_objects.specs.Apart.{AreApartForEver}
use Rattle.life_apart.specs.Sets.{sets_of}
use Rattle.life_apart.proofs.Pairs.{all_pairs, before_one, one_more}
use Rattle.life_apart.proofs.checks.each_is_apart.Goals as goal

pub returns-then-not-is_apart_from_all : goal.returns-then-not-is_apart_from_all
returns-then-not-is_apart_from_all c R of =
    let rule : c.index-orbits-n.result.rule ≡ R = ap (λ o. o.rule) c.index-orbits-n.is ∙ of c.loop-n.n c.index-orbits-n.result c.loop-n-test.true in (
      λ t. absurd (true≢false (sym t)),
      λ pairs. c.if-not-is_apart_from_all.ensures.1
          (subst (λ S. All (AreApartForEver S c.index-orbits-n.result.set) (sets_of (take c.loop-n.n c.args.orbits.now))) (sym rule)
          (before_one R c.args.orbits.now c.loop-n.n c.index-orbits-n.result c.loop-n-test.true c.index-orbits-n.is pairs)),
    )

pub loop-n-preserved : goal.loop-n-preserved
loop-n-preserved c R of =
    let rule : c.index-orbits-n.result.rule ≡ R = ap (λ o. o.rule) c.index-orbits-n.is ∙ of c.loop-n.n c.index-orbits-n.result c.loop-n-test.true in
    one_more R c.args.orbits.now c.loop-n.n c.index-orbits-n.result c.loop-n-test.true c.index-orbits-n.is
    (c.loop-n.invariant R of)
    (subst (λ S. All (AreApartForEver S c.index-orbits-n.result.set) (sets_of (take c.loop-n.n c.args.orbits.now))) rule
    (c.if-not-is_apart_from_all.ensures.0 refl))

pub returns : goal.returns
returns c R of = (
  λ t. all_pairs R c.args.orbits.now c.loop-n.n (omega arith) (c.loop-n.invariant R of),
  λ pairs. refl,
)
