use Rattle.std.proofs.Common.{◌≤◌, ◌-ℤ◌, take}
use Rattle.std.specs.Prelude.{nat_abs}
use Rattle.life_model.specs.Symmetry.{FlipY, Same, Swap, SwapFlipY}
use Rattle.life_codes.specs.Lengths.WideWords.{HoldsWideTurned, IsRoomFor, IsPlaceOfRow}
use Rattle.life_codes.proofs.lengths.wide_marks.mark_all.Given as goal

-- the columns of the cells so far are marked
abbrev pub invariant-loop-cell : goal.invariant-loop-cell
invariant-loop-cell l = record {
  same : HoldsWideTurned l.same Same l.frame (take l.cell-index l.cells);
  flip : HoldsWideTurned l.flip FlipY l.frame (take l.cell-index l.cells);
  swap : HoldsWideTurned l.swap Swap l.frame (take l.cell-index l.cells);
  swap_flip : HoldsWideTurned l.swap_flip SwapFlipY l.frame (take l.cell-index l.cells);
  same_room : IsRoomFor l.same Same l.frame;
  flip_room : IsRoomFor l.flip FlipY l.frame;
  swap_room : IsRoomFor l.swap Swap l.frame;
  swap_flip_room : IsRoomFor l.swap_flip SwapFlipY l.frame;
  place : l.place.row ≤ nat_abs (l.frame.bottom -ℤ l.frame.top) → IsPlaceOfRow l.place l.frame;
}
