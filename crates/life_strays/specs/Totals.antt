-- The numbers of cells in a set's generations, added up over stretches of equally many generations.
use Rattle.std.specs.Prelude.{◌≡◌, ℕ, zero, suc, ◌+◌, ◌-◌, ◌*◌, ◌<◌, List, length, slice_index_or}
use Rattle.life_model.specs.Evolution.{generation}
use Rattle.life_model.specs.Generation.{Generation, size}
use Rattle.life_model.specs.Rule.{Rule}

-- the sum of f 0, f 1 and so on, n numbers in all
abbrev pub sum_to : (ℕ → ℕ) → ℕ → ℕ
sum_to f zero = 0
sum_to f (suc n) = sum_to f n + f n

-- the number of cells in the first n generations together
abbrev pub total : Rule → Generation → ℕ → ℕ
total R G n = sum_to (λ m. size (generation R G m)) n

-- the totals before each stretch of b generations
abbrev pub AreTotals : Rule → ℕ → Generation → List ℕ → Type 0
AreTotals R b G totals = (j d : ℕ) → j < length totals → slice_index_or totals j d ≡ total R G (j * b)

-- Some `count` consecutive stretches have more than (count + 1) / count times as many cells as `count` others. That is
-- impossible for a set that recurs within a stretch.
pub record IsUneven (totals : List ℕ) : Type 0 where
  pub count : ℕ
  pub lesser : ℕ
  pub greater : ℕ
  pub has_lesser : lesser + count < length totals
  pub has_greater : greater + count < length totals
  pub more : (d : ℕ) →
      (count + 1) * (slice_index_or totals (lesser + count) d - slice_index_or totals lesser d)
      < count * (slice_index_or totals (greater + count) d - slice_index_or totals greater d)
