-- The offset of the last of some cells from the first.
use Rattle.std.specs.Prelude.{◌-◌, List, length, slice_index_or}
use Rattle.life_model.specs.Cell.{Cell, origin, plus, opposite}
use Rattle.life_model.specs.Generation.{Generation, cells}

-- the offset of the last cell of a list from the first, or the origin if there is none
abbrev pub list_span : List Cell → Cell
list_span cs = plus (slice_index_or cs (length cs - 1) origin) (opposite (slice_index_or cs 0 origin))

-- the offset of the last cell of a set, by y, then by x, from the first
unfoldable pub set_span : Generation → Cell
set_span G = list_span (cells G)
