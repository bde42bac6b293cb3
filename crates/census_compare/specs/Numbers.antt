-- Numbers as tables have them.
use Rattle.std.specs.Prelude.{◌≡◌, ℕ, ℤ, ◌<◌, ◌^◌, true, decimal, FitsSigned}
use Rattle.std.specs.Fmt.{signed_decimal}
use Rattle.std.specs.Int.{w64}
use Rattle.census_compare.specs.Columns.{is_number, is_signed}

-- each number of 64 bits can be claimed as tables have it, and so can each signed one
pub record NumbersMayBeClaimed : Type 0 where
  pub unsigned : (n : ℕ) → n < 2 ^ 64 → is_number (decimal n) ≡ true
  pub signed : (z : ℤ) → FitsSigned w64 z → is_signed (signed_decimal z) ≡ true
