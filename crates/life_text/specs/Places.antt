-- The places of the cells of a normal form.
use Rattle.std.specs.Prelude.{ℕ, List, map, nat_abs}
use Rattle.life_model.specs.Cell.{Cell}
use Rattle.life_model.specs.Generation.{Generation, cells}
use Rattle.life_model.specs.Symmetry.{normal}

-- the column and the row of a cell that is neither left of the origin nor above it
abbrev pub place : Cell → ℕ × ℕ
place c = (nat_abs c.0, nat_abs c.1)

-- the columns and rows of the cells of the normal form, row by row
abbrev pub places : Generation → List (ℕ × ℕ)
places G = map place (cells (normal G))
