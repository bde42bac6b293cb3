use Rattle.std.proofs.Common.{◌≡◌, inl, inr, refl, sym, subst, true≢false, arith}
use Rattle.std.proofs.lemmas.Bool.{cases_lt}
use Rattle.life_apart.specs.Spans.{IsApartFromLater}
use Rattle.life_apart.proofs.sweep.are_apart_in_order.Goals as goal

pub returns-then-not-is_apart_from_later-clause-apart : goal.returns-then-not-is_apart_from_later-clause-apart
returns-then-not-is_apart_from_later-clause-apart c R of t = absurd (true≢false (sym t))

pub returns-then-not-is_apart_from_later-clause-found : goal.returns-then-not-is_apart_from_later-clause-found
returns-then-not-is_apart_from_later-clause-found c R of pairs = c.if-not-is_apart_from_later.ensures.found R of pairs

pub loop-n-preserved : goal.loop-n-preserved
loop-n-preserved c R of n within =
    elim (cases_lt n c.loop-n.n) [
      | inl early ↦ c.loop-n.invariant R of n early
      | inr late ↦
          let last : c.loop-n.n ≡ n = omega arith in
          subst (IsApartFromLater R c.args.orbits.now c.args.spans.now) last
          (c.if-not-is_apart_from_later.ensures.apart R of refl)
    ]

pub returns-clause-apart : goal.returns-clause-apart
returns-clause-apart c R of t n within = c.loop-n.invariant R of n (let ended = c.loop-n-test.false in omega arith)
