-- Places of squares.
use Rattle.std.specs.Prelude.{ℕ, ◌-◌}

-- the place of the empty square of a level
abbrev pub empty_at : ℕ → ℕ
empty_at n = n - 1
