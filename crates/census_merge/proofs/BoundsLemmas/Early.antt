-- What is found of patterns, other than growth, is found by the greatest bound.
use Rattle.std.proofs.Common.{◌≡◌, ℕ, ◌+◌, ◌≤◌, true, ◌&&◌, leb, inl, inr, Option, Some, None, refl, sym, subst, arith}
use Rattle.std.specs.Prelude.{⊤}
use Rattle.std.proofs.lemmas.Bool.{and_from, le-leb}
use Rattle.census_readback.specs.Lawful.{has_lawful_numbers}
use Rattle.census_readback.specs.Limits.{bound_limit, cell_limit}
use Rattle.life_answer.proofs.Findings.{settled_or_not}
use Rattle.life_answer.specs.Answers.{outcome_of, recurrence_outcome}
use Rattle.life_answer.specs.Limited.{unless_large}
use Rattle.life_answer.specs.declared.finding.Outcome.{Outcome}
use Rattle.life_answer.specs.declared.finding.Outcome.TheVariants.{Recurs, Unresolved, Large, Ash, Grows}
use Rattle.life_model.proofs.Recurrences.{onset-period-least}
use Rattle.life_model.specs.Generation.{Generation}
use Rattle.life_model.specs.Recurrence.{Recurrence, Settles}
use Rattle.life_model.specs.Rule.{Rule}
use Rattle.census_merge.specs.Ranges.{fields_of}

abbrev pub IsEarly : Outcome → Type 0
IsEarly (Recurs onset period dx dy code) = onset + period ≤ bound_limit
IsEarly (Ash onset parts) = onset ≤ bound_limit
IsEarly (Large n) = n ≤ bound_limit
IsEarly _ = ⊤

-- the numbers of a `line` row
pub numbers-lawful : (population : ℕ) (outcome : Outcome) → population ≤ cell_limit → IsEarly outcome
    → has_lawful_numbers (fields_of (record { population = population; outcome = outcome })) ≡ true
numbers-lawful population (Recurs onset period dx dy code) few early =
    and_from (leb population cell_limit) (leb (onset + period) bound_limit && true) (le-leb population cell_limit few)
    (and_from (leb (onset + period) bound_limit) true (le-leb (onset + period) bound_limit early) refl)
numbers-lawful population (Ash onset parts) few early =
    and_from (leb population cell_limit) (leb (onset + 0) bound_limit && true) (le-leb population cell_limit few)
    (and_from (leb (onset + 0) bound_limit) true (le-leb (onset + 0) bound_limit (omega (arith, early))) refl)
numbers-lawful population (Large n) few early =
    and_from (leb population cell_limit) (leb n bound_limit) (le-leb population cell_limit few) (le-leb n bound_limit early)
numbers-lawful population Unresolved few early = and_from (leb population cell_limit) true (le-leb population cell_limit few) refl
numbers-lawful population (Grows engines) few early = and_from (leb population cell_limit) true (le-leb population cell_limit few) refl

module _ (R : Rule) (G : Generation) (b : ℕ) (low : b ≤ bound_limit) where
  recurrence-early : (r : Recurrence) → Settles R G b r → IsEarly (recurrence_outcome R G r)
  recurrence-early r s = let both = onset-period-least R G b r s b r.onset s.settles in omega (arith, both, low)

  pub settled-early : IsEarly (outcome_of R G b)
  settled-early =
      elim (settled_or_not R G b) [
        | inl some ↦ subst IsEarly (sym some.found) (recurrence-early some.recurrence some.settles)
        | inr none ↦ subst IsEarly (sym none.found) tt
      ]

pub unless-early : (found : Outcome) (large : Option ℕ) → IsEarly found → ((n : ℕ) → large ≡ Some n → n ≤ bound_limit) → IsEarly (unless_large found large)
unless-early found None h early = h
unless-early found (Some n) h early = early n refl
