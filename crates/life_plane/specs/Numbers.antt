-- Numbers in words, one at each of 64 places.
use Rattle.std.specs.Prelude.{ℕ, ◌+◌, ◌*◌}
use Rattle.std.specs.Int.{bit_at}
use Rattle.life_plane.specs.declared.logic.Count.{Count}

-- the number of live neighbours at bit j
abbrev pub number_at : Count → ℕ → ℕ
number_at count j =
    bit_at count.ones j
    + 2 * (bit_at count.above j + bit_at count.below j + bit_at count.beside j + bit_at count.carried j)
