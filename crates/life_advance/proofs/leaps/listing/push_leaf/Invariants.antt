-- The cells of the rows that the loop has come to.
use Rattle.std.proofs.Common.{◌≡◌, ◌||◌}
use Rattle.std.specs.List.{list_any}
use Rattle.life_model.specs.Cell.{Cell, same_cell}
use Rattle.life_advance.specs.Leaps.Cells.{rows_cells}
use Rattle.life_advance.proofs.leaps.listing.push_leaf.Given as goal

abbrev pub invariant-loop-y : goal.invariant-loop-y
invariant-loop-y l = (q : Cell) →
    list_any (same_cell q) l.cells.items ≡ (list_any (same_cell q) l.initial.cells.items || list_any (same_cell q) (rows_cells l.site.left l.site.top l.leaf.rows l.y))
