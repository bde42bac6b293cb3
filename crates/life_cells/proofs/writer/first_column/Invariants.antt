use Rattle.std.proofs.Common.{◌≡◌, take}
use Rattle.std.specs.Prelude.{All}
use Rattle.life_cells.specs.Dots.{dots_value}
use Rattle.life_cells.proofs.writer.first_column.Given as goal

-- the dots so far are of the first column
abbrev pub invariant-dots : goal.invariant-dots
invariant-dots l = record {
  value : l.value ≡ dots_value (take l.i l.dots) l.column;
  here : All (λ d. d.0 ≡ l.column) (take l.i l.dots);
}
