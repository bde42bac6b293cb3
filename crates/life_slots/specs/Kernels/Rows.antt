-- Rows of bits that hold cells of a set.
use Rattle.std.specs.Prelude.{◌≡◌, ℕ, ℤ, pos, ◌+ℤ◌, ◌-ℤ◌, ◌<◌, ◌≤◌}
use Rattle.std.specs.Int.{bit_at}
use Rattle.life_model.specs.Cell.{Cell}
use Rattle.life_model.specs.Generation.{Generation, contains}
use Rattle.life_plane.specs.Flags.{as_bit}
use Rattle.life_plane.specs.Area.{Nine, area_row}
use Rattle.life_plane.specs.declared.window.Window.{Window}
use Rattle.life_plane.specs.Windows.{window_row}

-- 1 for a live cell of a set, 0 for a dead one
abbrev pub state : Generation → Cell → ℕ
state G c = as_bit (contains G c)

-- The middle 64 bits of a row of 192 bits are the cells of a set from (left, y) on, eastwards, and the bit on either side of
-- these is the cell there.
pub record IsRowAt (G : Generation) (left y : ℤ) (bits : ℕ) : Type 0 where
  pub bit : (j : ℕ) → 63 ≤ j → j < 129 → bit_at bits j ≡ state G ((left -ℤ pos 64) +ℤ pos j, y)

-- the bits of three rows, one below another, and the place where the cells of the middle one begin
pub record ThreeRows : Type 0 where
  pub left : ℤ
  pub y : ℤ
  pub above : ℕ
  pub here : ℕ
  pub below : ℕ

-- three rows of a set, one below another: the middle one is that from (left, y) on
pub record AreRowsAt (G : Generation) (rows : ThreeRows) : Type 0 where
  pub above : IsRowAt G rows.left (rows.y -ℤ pos 1) rows.above
  pub here : IsRowAt G rows.left rows.y rows.here
  pub below : IsRowAt G rows.left (rows.y +ℤ pos 1) rows.below

-- the eight rows of a window are those of a set from (left, top) on, southwards, with the row above and the row below
pub record IsWindowAt (G : Generation) (left top : ℤ) (window : Window) : Type 0 where
  pub row : (y : ℕ) → y < 10 → IsRowAt G left ((top -ℤ pos 1) +ℤ pos y) (window_row window y)

-- the middle one of nine tiles has the cells of a set from (left, top) on, and those around have the cells next to these
pub record IsNineAt (G : Generation) (left top : ℤ) (nine : Nine) : Type 0 where
  pub row : (y : ℕ) → 63 ≤ y → y < 129 → IsRowAt G left ((top -ℤ pos 64) +ℤ pos y) (area_row nine y)
