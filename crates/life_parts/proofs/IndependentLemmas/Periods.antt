-- The period that is found is the least, and does not depend on the bound.
use Rattle.std.proofs.Common.{◌≡◌, ℕ, zero, suc, ◌+◌, ◌≤◌, Bool, true, cond, inl, inr, sym, ap, ◌∙◌, true≢false, arith}
use Rattle.std.proofs.lemmas.Bool.{cases_Bool, cases_lt}
use Rattle.life_model.specs.Cell.{Cell}
use Rattle.life_model.specs.Rule.{Rule}
use Rattle.life_model.specs.Generation.{Generation}
use Rattle.life_model.specs.Evolution.{generation}
use Rattle.life_model.specs.Symmetry.{normal}
use Rattle.life_model.specs.Recurrence.{RecursBy}
use Rattle.life_model.proofs.Moves.{normal-moved}
use Rattle.life_objects.specs.Ash.{RecursWithin}
use Rattle.life_objects.specs.Decided.Parts.{corner_offset, first_or_zero, period, returns_after}
use Rattle.life_objects.proofs.DecidedLemmas.Periods.{period_found, recurs}
use Rattle.life_objects.proofs.DecidedLemmas.Tests.{same_set-is}

module _ (test : ℕ → Bool) where
  first-least : (count n m : ℕ) → n ≤ m → test m ≡ true → first_or_zero test n count ≤ m
  first-least zero n m h passes = omega arith
  first-least (suc count) n m h passes =
      elim (cases_Bool (test n)) [
        | inl here ↦
            let e : first_or_zero test n (suc count) ≡ n = ap (λ t. cond t n (first_or_zero test (n + 1) count)) here in
            omega arith
        | inr fails ↦
            let e : first_or_zero test n (suc count) ≡ first_or_zero test (n + 1) count =
            ap (λ t. cond t n (first_or_zero test (n + 1) count)) fails in
            elim (cases_lt n m) [
              | inl later ↦ let rest = first-least count (n + 1) m (omega arith) passes in omega arith
              | inr not_later ↦
                  absurd (true≢false (sym passes ∙ ap test (let same : m ≡ n = omega arith in same) ∙ fails))
            ]
      ]

module _ (R : Rule) (P : Generation) where
  pub period-least : (b n : ℕ) (d : Cell) → RecursBy R P n d → period R b P ≤ n
  period-least b n d r =
      first-least (returns_after R P) b 1 n r.later
      ((same_set-is (normal (generation R P n)) (normal P)).1 (ap normal r.again ∙ normal-moved P d))

  pub one_period : (b c : ℕ) → RecursWithin R b P → RecursWithin R c P → period R b P ≡ period R c P
  one_period b c r s =
      let x = recurs R P b (period_found R P b r) in
      let y = recurs R P c (period_found R P c s) in
      let below = period-least b (period R c P) (corner_offset R P (period R c P)) y in
      let above = period-least c (period R b P) (corner_offset R P (period R b P)) x in
      omega arith
