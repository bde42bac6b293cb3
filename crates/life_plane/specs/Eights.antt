-- Rows of a tile, eight at a time.
use Rattle.std.specs.Prelude.{◌≡◌, ℕ, ◌+◌, ◌<◌, List, slice_index}

-- eight rows, from this one on, have no live cell
abbrev pub AreVoid : List ℕ → ℕ → Type 0
AreVoid rows top = (y : ℕ) → y < 8 → slice_index rows (top + y) ≡ 0
