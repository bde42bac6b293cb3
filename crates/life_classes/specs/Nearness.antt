-- The cells that a set reaches.
use Rattle.std.specs.Prelude.{ℕ, ◌-ℤ◌, Bool, ◌&&◌, List, nat_le, unsigned_abs}
use Rattle.std.specs.List.{list_any}
use Rattle.life_model.specs.Cell.{Cell, same_cell}
use Rattle.life_model.specs.Generation.{Generation, cells}

-- true if two cells are at most r from each other in both directions
abbrev pub are_within : ℕ → Cell → Cell → Bool
are_within r c d = nat_le (unsigned_abs (c.0 -ℤ d.0)) r && nat_le (unsigned_abs (c.1 -ℤ d.1)) r

-- true if a cell of P is at most r from c in both directions
abbrev pub reaches : ℕ → Generation → Cell → Bool
reaches r P c = list_any (are_within r c) (cells P)

-- true if a cell is listed
abbrev pub lists_cell : List Cell → Cell → Bool
lists_cell cs c = list_any (same_cell c) cs
