use Rattle.std.proofs.Common.{◌≡◌, inl, inr, refl, sym, subst, true≢false, arith}
use Rattle.std.proofs.lemmas.Bool.{cases_lt}
use Rattle.life_apart.specs.Spans.{IsStillOrApart}
use Rattle.life_apart.proofs.sweep.are_movers_apart.Goals as goal

pub returns-then-not-rests_or_is_apart-clause-apart : goal.returns-then-not-rests_or_is_apart-clause-apart
returns-then-not-rests_or_is_apart-clause-apart c R of t = absurd (true≢false (sym t))

pub returns-then-not-rests_or_is_apart-clause-found : goal.returns-then-not-rests_or_is_apart-clause-found
returns-then-not-rests_or_is_apart-clause-found c R of pairs = c.if-not-rests_or_is_apart.ensures.found R of pairs

pub loop-place-preserved : goal.loop-place-preserved
loop-place-preserved c R of i within =
    elim (cases_lt i c.loop-place.place) [
      | inl early ↦ c.loop-place.invariant R of i early
      | inr late ↦
          let last : c.loop-place.place ≡ i = omega arith in
          subst (IsStillOrApart R c.args.orbits.now) last (c.if-not-rests_or_is_apart.ensures.apart R of refl)
    ]

pub returns-clause-apart : goal.returns-clause-apart
returns-clause-apart c R of t i within = c.loop-place.invariant R of i (let ended = c.loop-place-test.false in omega arith)
