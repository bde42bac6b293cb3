use Rattle.std.proofs.Common.{◌≡◌, ◌-◌, ◌≤◌, length}
use Rattle.life_cells.specs.Readings.{with_prefix}
use Rattle.life_text.specs.Drawing.{drawn_from}
use Rattle.life_text.specs.Rle.{cell_limit}
use Rattle.life_text.specs.Reader.{count_cap}
use Rattle.life_text.proofs.drawn.draw_tokens.Given as goal

abbrev pub invariant-loop-at : goal.invariant-loop-at
invariant-loop-at l = record {
  from : l.from ≤ l.at;
  within : l.at ≤ length l.text;
  row : l.pen.y ≤ count_cap;
  column : l.pen.x ≤ count_cap;
  live : l.pen.live ≤ cell_limit;
  drawn : with_prefix l.fn.cells.items (drawn_from l.text l.fn.start l.from) ≡ with_prefix l.cells.items (drawn_from l.text l.pen l.at);
}

abbrev pub decreases-loop-at : goal.decreases-loop-at
decreases-loop-at l = length l.text - l.at
