use Rattle.std.proofs.Common.{◌≡◌, inl, inr, refl, sym, subst, true≢false, arith}
use Rattle.std.proofs.lemmas.Bool.{cases_lt}
use Rattle.life_apart.specs.Spans.{ArePlacesApart}
use Rattle.life_apart.proofs.sweep.is_apart_from_others.Goals as goal

pub returns-then-not-are_places_apart : goal.returns-then-not-are_places_apart
returns-then-not-are_places_apart c R of = (
  λ t. absurd (true≢false (sym t)),
  λ all. (c.if-not-are_places_apart.ensures R of).1 (all c.loop-other.other c.loop-other-test.true),
)

pub loop-other-preserved : goal.loop-other-preserved
loop-other-preserved c R of j within =
    elim (cases_lt j c.loop-other.other) [
      | inl early ↦ c.loop-other.invariant R of j early
      | inr late ↦
          let last : c.loop-other.other ≡ j = omega arith in
          subst (ArePlacesApart R c.args.orbits.now c.args.place) last ((c.if-not-are_places_apart.ensures R of).0 refl)
    ]

pub returns : goal.returns
returns c R of = (
  λ t j within. c.loop-other.invariant R of j (let ended = c.loop-other-test.false in omega arith),
  λ all. refl,
)
