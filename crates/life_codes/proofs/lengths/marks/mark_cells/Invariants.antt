use Rattle.std.proofs.Common.{◌≡◌, length, map, take}
use Rattle.life_model.specs.Symmetry.{Same, Swap}
use Rattle.life_codes.specs.Lengths.Frames.{cell_in_frame, turned_frame, wide_of}
use Rattle.life_codes.specs.Lengths.Words.{HoldsRows, AreWithinColumns}
use Rattle.life_codes.proofs.lengths.marks.mark_cells.Given as goal

-- the cells so far are marked
abbrev pub invariant-loop-cell : goal.invariant-loop-cell
invariant-loop-cell l = record {
  room : length l.rows ≡ 69;
  columns_room : length l.columns ≡ 69;
  rows : HoldsRows l.rows (map (cell_in_frame Same l.frame) (take l.cell-index l.cells));
  columns : HoldsRows l.columns (map (cell_in_frame Swap (turned_frame Swap l.frame)) (take l.cell-index l.cells));
  within : AreWithinColumns l.rows (wide_of l.frame);
  columns_within : AreWithinColumns l.columns (wide_of (turned_frame Swap l.frame));
}
