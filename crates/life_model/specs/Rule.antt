-- A Life-like rule: the numbers of live neighbours at which a cell is born, and those at which it stays.
-- Bit n of `birth` and of `survival` says whether n is a member. 0 is never among the births.
use Rattle.std.specs.Prelude.{ℕ, zero, suc, ◌/◌, ◌%◌, ◌^◌, ◌==◌, Bool, false}

pub record Rule : Type 0 where
  pub birth : ℕ
  pub survival : ℕ

-- true where bit n is set
abbrev pub has_bit : ℕ → ℕ → Bool
has_bit bits n = ((bits / 2 ^ n) % 2) == 1

-- true where a dead cell with n live neighbours is born
unfoldable pub born : Rule → ℕ → Bool
born R zero = false
born R (suc n) = has_bit R.birth (suc n)

-- true where a live cell with n live neighbours stays
unfoldable pub stays : Rule → ℕ → Bool
stays R n = has_bit R.survival n
