-- What the first generations of a set say about all those after them.
use Rattle.std.proofs.Common.{◌≡◌, ℕ, zero, suc, ◌+◌, ◌-◌, ◌<◌, ◌≤◌, inl, inr, Option, None, Some, refl, sym, ap, subst, ◌∙◌, arith}
use Rattle.std.proofs.lemmas.Bool.{cases_lt}
use Rattle.life_model.specs.Rule.{Rule}
use Rattle.life_model.specs.Generation.{Generation, size}
use Rattle.life_model.specs.Evolution.{generation}
use Rattle.life_model.specs.Recurrence.{Recurrence, Settles}
use Rattle.life_model.proofs.Orbits.{along}
use Rattle.life_model.proofs.Recurrences.{shape, shape-follows, shape_from_recurs, onset-period-le}
use Rattle.life_answer.specs.declared.finding.Outcome.{Outcome}
use Rattle.life_answer.specs.declared.finding.Outcome.TheVariants.{Large, Unresolved}
use Rattle.life_answer.specs.Answers.{outcome_of}
use Rattle.life_answer.specs.Limited.{IsAllowed, StaysWithin, first_past, outcome_unless_large, unless_large}
use Rattle.life_answer.proofs.Findings.{outcome-more, settled_or_not}
use Rattle.life_answer.proofs.Limits.{first_past-is, limited-else, limited-same}
use Rattle.life_answer.proofs.Sizes.{size_by_shape}

module _ (R : Rule) (G : Generation) where
  -- the first generation past the limit is the same, whatever later ones are looked at
  pub past_beyond : (limit : Option ℕ) (last bound n : ℕ) → last ≤ bound
      → first_past limit R G last ≡ Some n → first_past limit R G bound ≡ Some n
  past_beyond None last bound n h past = absurd cc
  past_beyond (Some most) last bound n h past =
      let first = (first_past-is R G last most n).0 past in
      let within : n ≤ last = first.0 in
      (first_past-is R G bound most n).1 (omega arith, first.1, first.2)

  -- a set that is too large within some bound is too large within any greater one
  pub large_beyond : (limit : Option ℕ) (last bound : ℕ) (large found : Outcome) → last ≤ bound
      → ((other : Outcome) → outcome_unless_large limit R G last other ≡ large) → outcome_unless_large limit R G bound found ≡ large
  large_beyond limit last bound large found h all = by_first (first_past limit R G last) refl
    where
      by_first : (o : Option ℕ) → first_past limit R G last ≡ o → outcome_unless_large limit R G bound found ≡ large
      by_first None e =
          let one : Unresolved ≡ large = ap (unless_large Unresolved) (sym e) ∙ all Unresolved in
          let two : Large 0 ≡ large = ap (unless_large (Large 0)) (sym e) ∙ all (Large 0) in
          absurd cc
      by_first (Some n) e =
          ap (unless_large found) (past_beyond limit last bound n h e ∙ sym e) ∙ all found

  -- a set stays within a limit where what is found with the limit is what is found without it
  pub stays : (limit : Option ℕ) (last : ℕ) → ((other : Outcome) → outcome_unless_large limit R G last other ≡ other)
      → StaysWithin limit R G last
  stays limit last all =
      (limited-else R G last limit Unresolved Unresolved (all Unresolved) (λ first e. cc)).0

  module _ (b : ℕ) (r : Recurrence) (s : Settles R G b r) where
    abbrev o : ℕ
    o = r.onset

    abbrev p : ℕ
    p = r.period

    -- a generation that comes a period or more after the onset has as many cells as the one a period before it
    size-before : (n : ℕ) → o + p ≤ n → size (generation R G (n - p)) ≡ size (generation R G n)
    size-before n h =
        let k : ℕ = n - (o + p) in
        let again : shape R G (o + p) ≡ shape R G o = shape_from_recurs R G o p r.displacement s.recurs in
        let here : (o + p) + k ≡ n = omega arith in
        let before : o + k ≡ n - p = omega arith in
        size_by_shape (generation R G (n - p)) (generation R G n)
        (ap (shape R G) (sym before)
        ∙ sym (along (shape R G) (shape-follows R G) k (o + p) o again)
        ∙ ap (shape R G) here)

    module _ (limit : Option ℕ) (small : StaysWithin limit R G b) where
      allowed_before : (count n : ℕ) → n < count → IsAllowed limit (size (generation R G n))
      allowed_before zero n h = absurd (omega arith)
      allowed_before (suc count) n h =
          let whole : o + p ≤ b = onset-period-le R G b r s in
          let later : 1 ≤ p = s.recurs.later in
          elim (cases_lt n (o + p)) [
            | inl early ↦ small n (omega arith)
            | inr late ↦ subst (IsAllowed limit) (size-before n late) (allowed_before count (n - p) (omega arith))
          ]

      -- a set that settles, and stays within its limit until then, stays within it for ever
      stays_beyond : (c : ℕ) → StaysWithin limit R G c
      stays_beyond c n h = allowed_before (n + 1) n (omega arith)

      settled_beyond : (c : ℕ) → b ≤ c → outcome_unless_large limit R G c (outcome_of R G c) ≡ outcome_of R G b
      settled_beyond c h =
          let whole : o + p ≤ b = onset-period-le R G b r s in
          limited-same R G c limit (outcome_of R G c) (stays_beyond c) ∙ outcome-more R G b c r s (omega arith)

  -- what is found of a set that stays within its limit is found within any greater bound, unless it is unresolved
  pub found_beyond : (limit : Option ℕ) (b c : ℕ) → StaysWithin limit R G b
      → (outcome_of R G b ≡ Unresolved → ⊥) → b ≤ c
      → outcome_unless_large limit R G c (outcome_of R G c) ≡ outcome_of R G b
  found_beyond limit b c small resolved h =
      elim (settled_or_not R G b) [
        | inl found ↦ settled_beyond b found.recurrence found.settles limit small c h
        | inr not ↦ absurd (resolved not.found)
      ]
