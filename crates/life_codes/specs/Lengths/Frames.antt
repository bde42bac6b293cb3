-- The least and the greatest places of cells, before and after the cells are turned.
use Rattle.std.specs.Prelude.{ℕ, ◌+◌, ◌/◌, ◌<◌, ℤ, pos, negsuc, neg_ℤ, ◌-ℤ◌, ◌≤ℤ◌, nat_abs, List, map, fold}
use Rattle.std.specs.List.{slice_index_or}
use Rattle.std.specs.Int.{int_min, int_max}
use Rattle.life_model.specs.Cell.{Cell, plus, opposite, origin}
use Rattle.life_model.specs.Symmetry.{Orientation, Same, FlipX, FlipY, Half, Swap, SwapFlipX, SwapFlipY, SwapHalf, turn}
use Rattle.life_cells.specs.Limits.{coordinate_limit, last_place}
use Rattle.life_codes.specs.declared.lengths.frame.Frame.{Frame}

abbrev pub least_at : (Cell → ℤ) → List Cell → ℤ
least_at f cs = fold int_min (f (slice_index_or cs 0 origin)) (map f cs)

abbrev pub greatest_at : (Cell → ℤ) → List Cell → ℤ
greatest_at f cs = fold int_max (f (slice_index_or cs 0 origin)) (map f cs)

-- the least and the greatest places of some cells
abbrev pub frame_of : List Cell → Frame
frame_of cs = record {
  left = least_at (λ c. c.0) cs;
  top = least_at (λ c. c.1) cs;
  right = greatest_at (λ c. c.0) cs;
  bottom = greatest_at (λ c. c.1) cs;
}

-- the least and the greatest places of the images of cells of the frame under the map
abbrev pub turned_frame : Orientation → Frame → Frame
turned_frame Same f = record { left = f.left; top = f.top; right = f.right; bottom = f.bottom }
turned_frame FlipX f = record { left = neg_ℤ f.right; top = f.top; right = neg_ℤ f.left; bottom = f.bottom }
turned_frame FlipY f = record { left = f.left; top = neg_ℤ f.bottom; right = f.right; bottom = neg_ℤ f.top }
turned_frame Half f = record { left = neg_ℤ f.right; top = neg_ℤ f.bottom; right = neg_ℤ f.left; bottom = neg_ℤ f.top }
turned_frame Swap f = record { left = f.top; top = f.left; right = f.bottom; bottom = f.right }
turned_frame SwapFlipX f = record { left = neg_ℤ f.bottom; top = f.left; right = neg_ℤ f.top; bottom = f.right }
turned_frame SwapFlipY f = record { left = f.top; top = neg_ℤ f.right; right = f.bottom; bottom = neg_ℤ f.left }
turned_frame SwapHalf f = record { left = neg_ℤ f.bottom; top = neg_ℤ f.right; right = neg_ℤ f.top; bottom = neg_ℤ f.left }

-- the cell is within the frame
pub record IsInFrame (f : Frame) (c : Cell) : Type 0 where
  pub left : f.left ≤ℤ c.0
  pub right : c.0 ≤ℤ f.right
  pub above : f.top ≤ℤ c.1
  pub below : c.1 ≤ℤ f.bottom

-- Its places are -16,777,216 to 16,777,216, and it has a column and a row.
pub record IsBounded (f : Frame) : Type 0 where
  pub left : negsuc last_place ≤ℤ f.left
  pub across : f.left ≤ℤ f.right
  pub right : f.right ≤ℤ pos coordinate_limit
  pub top : negsuc last_place ≤ℤ f.top
  pub down : f.top ≤ℤ f.bottom
  pub bottom : f.bottom ≤ℤ pos coordinate_limit

abbrev pub wide_of : Frame → ℕ
wide_of f = nat_abs (f.right -ℤ f.left) + 1

-- the number of strips of five rows that it takes
abbrev pub strips_of : Frame → ℕ
strips_of f = (nat_abs (f.bottom -ℤ f.top) + 5) / 5

-- the image of the cell under the map, counted from the corner of the frame
abbrev pub cell_in_frame : Orientation → Frame → Cell → Cell
cell_in_frame m f c = plus (turn m c) (opposite (f.left, f.top))

-- It is at most five wide and at most five high.
pub record IsTinyFrame (f : Frame) : Type 0 where
  pub across : nat_abs (f.right -ℤ f.left) < 5
  pub down : nat_abs (f.bottom -ℤ f.top) < 5
