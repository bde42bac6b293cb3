-- The numbers of live cells in rows of three.
use Rattle.std.specs.Prelude.{◌≡◌, ℕ, ◌+◌, ◌*◌, ◌<◌}
use Rattle.std.specs.Int.{bit_at}
use Rattle.life_plane.specs.declared.row_sums.RowSums.{RowSums}

-- two words spell, for each of the middle 64 bits of a row of 192, the number of set bits among the two beside it
abbrev pub IsTwoOf : ℕ → ℕ → ℕ → Type 0
IsTwoOf bits ones twos = (x : ℕ) → x < 64 →
    bit_at ones x + 2 * bit_at twos x ≡ bit_at bits (x + 63) + bit_at bits (x + 65)

-- two words spell, for each of the middle 64 bits of a row of 192, the number of set bits among the two beside it and
-- itself
abbrev pub IsThreeOf : ℕ → ℕ → ℕ → Type 0
IsThreeOf bits ones twos = (x : ℕ) → x < 64 →
    bit_at ones x + 2 * bit_at twos x ≡ bit_at bits (x + 63) + bit_at bits (x + 64) + bit_at bits (x + 65)

-- the sums of a row
pub record IsRowSumsOf (sums : RowSums) (bits : ℕ) : Type 0 where
  pub two : IsTwoOf bits sums.two.ones sums.two.twos
  pub three : IsThreeOf bits sums.three.ones sums.three.twos
