use Rattle.std.proofs.Common.{◌≡◌, get_or, pos, inl, inr, refl, sym, subst, true≢false, arith}
use Rattle.std.proofs.lemmas.Bool.{cases_lt}
use Rattle.std.proofs.lemmas.List.{get_or_default}
use Rattle.life_apart.specs.Spans.{ArePlacesApart}
use Rattle.life_apart.specs.declared.span.Span.{Span}
use Rattle.life_apart.proofs.Bands.{none_after}
use Rattle.life_apart.proofs.Sweeping.{places_apart}
use Rattle.life_apart.proofs.sweep.is_apart_from_later.Goals as goal

pub returns-then-is_past-clause-apart : goal.returns-then-is_past-clause-apart
returns-then-is_past-clause-apart c R of t k d after within next =
    let s : Span = record { band = 0; start = pos 0; end = pos 0; place = 0 } in
    elim (cases_lt k c.loop-other.other) [
      | inl early ↦ c.loop-other.invariant R of k d after early next
      | inr late ↦
          let from = c.loop-other.auto.other in
          absurd (none_after c.args.spans.now c.requires.rising c.args.n c.loop-other.other k d s (omega arith) late within
          c.if-is_past.ensures next)
    ]

pub returns-then-not-are_places_apart-clause-apart : goal.returns-then-not-are_places_apart-clause-apart
returns-then-not-are_places_apart-clause-apart c R of t = absurd (true≢false (sym t))

pub returns-then-not-are_places_apart-clause-found : goal.returns-then-not-are_places_apart-clause-found
returns-then-not-are_places_apart-clause-found c R of pairs =
    let s : Span = record { band = 0; start = pos 0; end = pos 0; place = 0 } in
    (c.if-not-are_places_apart.ensures R of).1
    (places_apart R c.args.orbits.now pairs _ _ (c.requires.placed c.args.n s c.requires.within)
    (c.requires.placed c.loop-other.other s c.loop-other-test.true))

pub loop-other-preserved : goal.loop-other-preserved
loop-other-preserved c R of k d after within next =
    let s : Span = record { band = 0; start = pos 0; end = pos 0; place = 0 } in
    let os = c.args.orbits.now in
    let ss = c.args.spans.now in
    let n = c.args.n in
    let m = c.loop-other.other in
    elim (cases_lt k m) [
      | inl early ↦ c.loop-other.invariant R of k d after early next
      | inr late ↦
          let last : m ≡ k = omega arith in
          subst (λ i. ArePlacesApart R os (get_or ss n d).place (get_or ss i d).place) last
          (subst (λ (a : Span). ArePlacesApart R os a.place (get_or ss m d).place)
          (get_or_default ss n s d c.requires.within)
          (subst (λ (b : Span). ArePlacesApart R os (get_or ss n s).place b.place)
          (get_or_default ss m s d c.loop-other-test.true) ((c.if-not-are_places_apart.ensures R of).0 refl)))
    ]

pub returns-clause-apart : goal.returns-clause-apart
returns-clause-apart c R of t k d after within next =
    c.loop-other.invariant R of k d after (let ended = c.loop-other-test.false in omega arith) next
