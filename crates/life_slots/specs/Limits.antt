-- Limits on the places of tiles and cells, so that numbers computed from them stay far from the limits of 32 bits.
use Rattle.std.specs.Prelude.{ℕ}

-- the columns and the rows of tiles are at most this, and at least -1 minus this
abbrev pub tile_limit : ℕ
tile_limit = 10000000

-- the places of cells that are examined or listed are at most this, and at least -1 minus this
abbrev pub reach_limit : ℕ
reach_limit = 1000000000
