use Rattle.std.proofs.Common.{◌≡◌, ◌-◌, ◌<◌, ◌≤◌, true, length}
use Rattle.std.specs.Prelude.{All}
use Rattle.life_cells.specs.Limits.{IsWithin, place_limit}
use Rattle.life_cells.specs.Readings.{with_prefix}
use Rattle.life_cells.specs.Drawing.{cells_drawn, keeps_from, marks_at}
use Rattle.life_cells.proofs.reader.read_cells.Given as goal

abbrev pub invariant-signs : goal.invariant-signs
invariant-signs l = record {
  within : l.at ≤ length l.text;
  strip : l.strip ≤ place_limit;
  column : l.column ≤ place_limit;
  cells : All (IsWithin 0) l.cells.items;
  kept : 0 < length l.cells.items → keeps_from 0 0 (marks_at l.text 0) ≡ true;
  more : keeps_from l.strip l.column (marks_at l.text l.at) ≡ true → keeps_from 0 0 (marks_at l.text 0) ≡ true;
  all : cells_drawn 0 0 (marks_at l.text 0) ≡ with_prefix l.cells.items (cells_drawn l.strip l.column (marks_at l.text l.at));
}

abbrev pub decreases-signs : goal.decreases-signs
decreases-signs l = length l.text - l.at
