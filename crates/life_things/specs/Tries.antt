-- The numbers of times that the first of four steps is made, where the others follow it, each made any number of
-- times.
use Rattle.std.specs.Prelude.{◌≡◌, ℕ, ◌<◌, ◌≤◌, ℤ, pos, ◌+ℤ◌, ◌-ℤ◌, ◌*ℤ◌, [], ◌∷◌}
use Rattle.life_model.specs.Cell.{Cell}
use Rattle.life_model.specs.Generation.{Generation}
use Rattle.life_growth.specs.Meeting.Sums.{Step, and_then, times}
use Rattle.life_growth.specs.Relations.Relations.{product}
use Rattle.life_things.specs.Lattice.Numbers.{number_limit}
use Rattle.life_things.specs.Lattice.Short.{IsShort, IsStride, four_start}
use Rattle.life_things.specs.Clear.{StaysClear}
use Rattle.life_things.specs.declared.tries.Tries.{Tries}

-- none of the steps is too long, and none is made too often
pub record AreFit (t : Tries) : Type 0 where
  pub start : IsShort four_start t.start
  pub step : IsStride t.step
  pub first : IsStride t.first
  pub second : IsStride t.second
  pub third : IsStride t.third
  pub few : t.until ≤ number_limit

-- the sets stay clear where the step has been made n times, and then the others
abbrev pub ClearAfter : Generation → Generation → Tries → ℕ → Type 0
ClearAfter P Q t n = StaysClear P Q (and_then t.start (times n t.step)) (t.first ∷ t.second ∷ t.third ∷ [])

-- the sets stay clear for each number that is tried
abbrev pub AreClear : Generation → Generation → Tries → Type 0
AreClear P Q t = (n : ℕ) → t.from ≤ n → n < t.until → ClearAfter P Q t n

-- the sets stay clear for those numbers after which some number of the third of the others leads, along a gauge, to a
-- place
abbrev pub ClearTowards : Generation → Generation → Tries → Step → Cell → Type 0
ClearTowards P Q t g d =
    (n : ℕ) (k : ℤ) → t.from ≤ n → n < t.until →
    ((product g t.start -ℤ product g (pos 0, d)) +ℤ ((pos n *ℤ product g t.step) +ℤ (k *ℤ product g t.third))) ≡ pos 0 →
    ClearAfter P Q t n
