-- The number of times that each of up to four steps is made, or made back.
use Rattle.std.specs.Prelude.{◌≡◌, ℕ, ◌+◌, ℤ, pos, neg_ℤ, List, [], ◌∷◌}
use Rattle.std.specs.Int.{◌∣◌}
use Rattle.std.specs.Prelude.{unsigned_abs}
use Rattle.life_growth.specs.Meeting.Sums.{Step, stay}
use Rattle.life_growth.specs.Relations.Relations.{above, combination, spanned}
use Rattle.life_things.specs.declared.lattice.numbers.Numbers.{Numbers}
use Rattle.life_things.specs.Lattice.Short.{IsWithin}

abbrev pub numbers_of : Numbers → List ℤ
numbers_of n = n.first ∷ n.second ∷ n.third ∷ n.fourth ∷ []

-- the steps, made these numbers of times, cancel out
abbrev pub StayBy : List Step → Numbers → Type 0
StayBy us n = combination us (numbers_of n) ≡ stay

-- the greatest number of times that steps have to be made for that
abbrev pub number_limit : ℕ
number_limit = 6000000000000

-- the numbers of the relation between any four steps
abbrev pub four_numbers : Step → Step → Step → Step → Numbers
four_numbers u v w z = record {
  first = spanned z v w;
  second = spanned u z w;
  third = spanned u v z;
  fourth = neg_ℤ (spanned u v w);
}

-- none of the numbers is further from 0 than the limit
pub record AreFew (n : Numbers) : Type 0 where
  pub first : IsWithin number_limit n.first
  pub second : IsWithin number_limit n.second
  pub third : IsWithin number_limit n.third
  pub fourth : IsWithin number_limit n.fourth

-- g divides each number
pub record DividesAll (g : ℕ) (n : Numbers) : Type 0 where
  pub first : g ∣ unsigned_abs n.first
  pub second : g ∣ unsigned_abs n.second
  pub third : g ∣ unsigned_abs n.third
  pub fourth : g ∣ unsigned_abs n.fourth

-- each number with the opposite sign
abbrev pub turned : Numbers → Numbers
turned n = record { first = neg_ℤ n.first; second = neg_ℤ n.second; third = neg_ℤ n.third; fourth = neg_ℤ n.fourth }

-- the sum of the numbers above 0
abbrev pub total_above : Numbers → ℕ
total_above n = above n.first + (above n.second + (above n.third + above n.fourth))

-- Steps that cancel out with the many numbers also do with the few.
pub record IsLighter (few many : Numbers) : Type 0 where
  pub stays : (us : List Step) → StayBy us many → StayBy us few
  pub third : many.third ≡ pos 0 → few.third ≡ pos 0
  pub fourth : many.fourth ≡ pos 0 → few.fourth ≡ pos 0
