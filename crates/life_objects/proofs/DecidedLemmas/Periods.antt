-- After how many generations a set recurs, and what it was if what it becomes is known.
use Rattle.std.proofs.Common.{◌≡◌, ℕ, zero, suc, ◌+◌, ◌-◌, ◌*◌, ◌<◌, ◌≤◌, true, false, Bool, cond, inl, inr, sym, ap}
use Rattle.std.proofs.Common.{subst, ◌∙◌}
use Rattle.std.proofs.Common.{true≢false, arith}
use Rattle.std.proofs.lemmas.Bool.{cases_Bool, cases_lt}
use Rattle.life_model.specs.Cell.{Cell, opposite}
use Rattle.life_model.specs.Rule.{Rule}
use Rattle.life_model.specs.Generation.{Generation}
use Rattle.life_model.specs.Evolution.{generation}
use Rattle.life_model.specs.Symmetry.{translate_of, normal}
use Rattle.life_model.specs.Recurrence.{RecursBy}
use Rattle.life_model.proofs.Moves.{moved_from_normal, normal-moved}
use Rattle.life_objects.specs.Ash.{RecursWithin}
use Rattle.life_objects.specs.Drift.{multiple_of}
use Rattle.life_objects.specs.Whole.{IsCore}
use Rattle.life_objects.proofs.Moving.{generation-times}
use Rattle.life_objects.proofs.Recurring.{RecursBy-later, RecursBy-sooner, moved_back, n-le}
use Rattle.life_objects.specs.Decided.Parts.{returns_after, first_or_zero, part_of, period, corner_offset}
use Rattle.life_objects.proofs.DecidedLemmas.Tests.{same_set-is}

module _ (test : ℕ → Bool) where
  here : (n count : ℕ) → test n ≡ true → first_or_zero test n (suc count) ≡ n
  here n count e = ap (λ t. cond t n (first_or_zero test (n + 1) count)) e

  further : (n count : ℕ) → test n ≡ false → first_or_zero test n (suc count) ≡ first_or_zero test (n + 1) count
  further n count e = ap (λ t. cond t n (first_or_zero test (n + 1) count)) e

  first-le : (count n : ℕ) → 1 ≤ n → first_or_zero test n count ≤ (n + count) - 1
  first-le zero n one = omega arith
  first-le (suc count) n one =
      elim (cases_Bool (test n)) [
        | inl passes ↦ let e = here n count passes in omega arith
        | inr fails ↦ let e = further n count fails in let h = first-le count (n + 1) (omega arith) in omega arith
      ]

  first_passes : (count n : ℕ) → 1 ≤ first_or_zero test n count → test (first_or_zero test n count) ≡ true
  first_passes zero n h = absurd (omega arith)
  first_passes (suc count) n h =
      elim (cases_Bool (test n)) [
        | inl passes ↦ ap test (here n count passes) ∙ passes
        | inr fails ↦
            let e = further n count fails in
            ap test e ∙ first_passes count (n + 1) (omega arith)
      ]

  first_found : (count n m : ℕ) → 1 ≤ n → n ≤ m → m < n + count → test m ≡ true → 1 ≤ first_or_zero test n count
  first_found zero n m one h k e = absurd (omega arith)
  first_found (suc count) n m one h k e =
      elim (cases_Bool (test n)) [
        | inl passes ↦ let z = here n count passes in omega arith
        | inr fails ↦
            let z = further n count fails in
            elim (cases_lt n m) [
              | inl later ↦
                  let rest = first_found count (n + 1) m (omega arith) (omega arith) (omega arith) e in omega arith
              | inr not_later ↦
                  absurd (true≢false (sym e ∙ ap test (let same : m ≡ n = omega arith in same) ∙ fails))
            ]
      ]

module _ (R : Rule) (P : Generation) where
  recurs_by_test : (n : ℕ) → 1 ≤ n → returns_after R P n ≡ true → RecursBy R P n (corner_offset R P n)
  recurs_by_test n h e = record {
    later = h;
    again = moved_from_normal P (generation R P n) (sym ((same_set-is (normal (generation R P n)) (normal P)).0 e));
  }

  test_by_recurs : (n : ℕ) (d : Cell) → RecursBy R P n d → returns_after R P n ≡ true
  test_by_recurs n d r =
      (same_set-is (normal (generation R P n)) (normal P)).1 (ap normal r.again ∙ normal-moved P d)

  pub period-le : (b : ℕ) → period R b P ≤ b
  period-le b = let h = first-le (returns_after R P) b 1 (omega arith) in omega arith

  -- what is found is a number of generations after which P recurs
  pub recurs : (b : ℕ) → 1 ≤ period R b P → RecursBy R P (period R b P) (corner_offset R P (period R b P))
  recurs b h = recurs_by_test (period R b P) h (first_passes (returns_after R P) b 1 h)

  -- where there is one within b, one is found
  pub period_found : (b : ℕ) → RecursWithin R b P → 1 ≤ period R b P
  period_found b r =
      let one : 1 ≤ r.steps = r.recurs.later in
      let within : r.steps ≤ b = r.within in
      first_found (returns_after R P) b 1 r.steps (omega arith) one (omega arith)
      (test_by_recurs r.steps r.by r.recurs)

  pub recurs_within : (b : ℕ) → 1 ≤ period R b P → RecursWithin R b P
  recurs_within b h = record {
    steps = period R b P;
    by = corner_offset R P (period R b P);
    within = period-le b;
    recurs = recurs b h;
  }

-- what recurs is determined by what of it lives on
module _ (R : Rule) (b : ℕ) (L P : Generation) (r : RecursWithin R b P) (core : IsCore R b L P) where
  abbrev last : Generation
  last = generation R L b

  abbrev n : ℕ
  n = period R b last

  pub same_end : generation R P b ≡ last
  same_end = core.later b (omega arith)

  found : 1 ≤ n
  found = period_found R last b (record {
    steps = r.steps;
    by = r.by;
    within = r.within;
    recurs = subst (λ H. RecursBy R H r.steps r.by) same_end (RecursBy-later R P r.steps r.by r.recurs b);
  })

  likewise : RecursBy R P n (corner_offset R last n)
  likewise =
      RecursBy-sooner R P r.steps r.by r.recurs b n (corner_offset R last n)
      (subst (λ H. RecursBy R H n (corner_offset R last n)) (sym same_end) (recurs R last b found))

  pub part_told : part_of R b L ≡ P
  unfolding part_of
  part_told =
      ap (λ H. translate_of H (opposite (multiple_of b (corner_offset R last n))))
      (sym (core.later (b * n) (n-le R P n (corner_offset R last n) likewise b))
      ∙ generation-times R P n (corner_offset R last n) likewise b)
      ∙ moved_back P (multiple_of b (corner_offset R last n))
