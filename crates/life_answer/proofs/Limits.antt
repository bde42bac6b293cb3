-- A limit on cells changes nothing for a pattern that stays within it.
use Rattle.std.proofs.Common.{◌≡◌, ◌↔◌, ℕ, suc, ◌<◌, ◌≤◌, true, false, Option, None, Some, nat_lt, refl, sym, ap, arith}
use Rattle.life_model.specs.Rule.{Rule}
use Rattle.life_model.specs.Generation.{Generation, size}
use Rattle.life_model.specs.Evolution.{generation}
use Rattle.life_answer.specs.declared.finding.Outcome.{Outcome}
use Rattle.life_answer.specs.declared.finding.Outcome.TheVariants.{Large}
use Rattle.life_answer.specs.Limited.{StaysWithin, first_larger, first_past, outcome_unless_large, unless_large}
use Rattle.life_answer.proofs.Findings.{first_from-first, first_from-found, first_from-none, first_from-nowhere}

module _ (R : Rule) (G : Generation) (last : ℕ) where
  abbrev pub IsFirstLarger : ℕ → ℕ → Type 0
  IsFirstLarger most n = (n ≤ last) × (most < size (generation R G n)) × ((m : ℕ) → m < n → size (generation R G m) ≤ most)

  none_larger : (most : ℕ) → StaysWithin (Some most) R G last → first_larger R G most last ≡ None
  unfolding first_larger
  none_larger most small =
      first_from-nowhere (λ n. nat_lt most (size (generation R G n))) (suc last) 0
      (λ m h k. let few : size (generation R G m) ≤ most = small m (omega arith) in grind arith)

  all_smaller : (most : ℕ) → first_larger R G most last ≡ None → StaysWithin (Some most) R G last
  unfolding first_larger
  all_smaller most none n within =
      let fails : nat_lt most (size (generation R G n)) ≡ false = first_from-none (λ n. nat_lt most (size (generation R G n))) (suc last) 0 n none (omega arith) (omega arith) in
      grind arith

  -- there is no generation over the limit exactly where all stay within it
  pub none_past : (limit : Option ℕ) → StaysWithin limit R G last → first_past limit R G last ≡ None
  none_past None small = refl
  none_past (Some most) small = none_larger most small

  pub stays_within : (limit : Option ℕ) → first_past limit R G last ≡ None → StaysWithin limit R G last
  stays_within None none n within = tt
  stays_within (Some most) none n within = all_smaller most none n within

  -- for a pattern that stays within its limit the finding is the same as without one
  pub limited-same : (limit : Option ℕ) (found : Outcome) → StaysWithin limit R G last → outcome_unless_large limit R G last found ≡ found
  limited-same limit found small = ap (unless_large found) (none_past limit small)

  -- where the finding is not that a generation is too large, the pattern stays within its limit
  pub limited-else : (limit : Option ℕ) (found other : Outcome) → outcome_unless_large limit R G last found ≡ other
      → ((first : ℕ) → other ≡ Large first → ⊥) → StaysWithin limit R G last × (found ≡ other)
  limited-else limit found other is differs = small_else (first_past limit R G last) refl is
    where
      small_else : (o : Option ℕ) → first_past limit R G last ≡ o → unless_large found o ≡ other → StaysWithin limit R G last × (found ≡ other)
      small_else None e same = (stays_within limit e, same)
      small_else (Some n) e same = absurd (differs n (sym same))

  larger : (most n : ℕ) → IsFirstLarger most n → first_larger R G most last ≡ Some n
  unfolding first_larger
  larger most n first =
      let within : n ≤ last = first.0 in
      let more : most < size (generation R G n) = first.1 in
      first_from-first (λ n. nat_lt most (size (generation R G n))) (suc last) 0 n (omega arith) (omega arith)
      (grind arith)
      (λ m h k. let few : size (generation R G m) ≤ most = first.2 m k in grind arith)

  larger_found : (most n : ℕ) → first_larger R G most last ≡ Some n → IsFirstLarger most n
  unfolding first_larger
  larger_found most n e =
      let first = first_from-found (λ n. nat_lt most (size (generation R G n))) (suc last) 0 n e in
      let below = first.below in
      let passes : nat_lt most (size (generation R G n)) ≡ true = first.passes in (
        omega arith,
        grind arith,
        λ m h. let fails : nat_lt most (size (generation R G m)) ≡ false = first.before m (omega arith) h in grind arith,
      )

  -- the first generation over the limit has more cells than it may have, and none before it has
  pub first_past-is : (most n : ℕ) → (first_past (Some most) R G last ≡ Some n) ↔ IsFirstLarger most n
  first_past-is most n = (larger_found most n, larger most n)

  pub none_past-is : (limit : Option ℕ) → (first_past limit R G last ≡ None) ↔ StaysWithin limit R G last
  none_past-is limit = (stays_within limit, none_past limit)

  -- and is one of those that are looked at
  pub past_within : (limit : Option ℕ) (n : ℕ) → first_past limit R G last ≡ Some n → n ≤ last
  past_within None n past = absurd cc
  past_within (Some most) n past = ((first_past-is most n).0 past).0
