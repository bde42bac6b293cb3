-- Numbers in words, one at each of 64 places.
use Rattle.std.specs.Prelude.{ℕ, ◌+◌, ◌*◌}
use Rattle.std.specs.Int.{bit_at}
use Rattle.life_plane.specs.declared.adders.Sum.{Sum}

-- the number that two words spell at bit j
abbrev pub sum_at : Sum → ℕ → ℕ
sum_at sum j = bit_at sum.ones j + 2 * bit_at sum.twos j
