-- The limit on the distance of a square from (0, 0).
use Rattle.std.specs.Prelude.{ℕ}

-- the coordinates of the first cell of a square are at most this, and none is below -1 minus this
abbrev pub corner_limit : ℕ
corner_limit = 100000000
