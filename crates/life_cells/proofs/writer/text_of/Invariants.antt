use Rattle.std.proofs.Common.{◌≡◌, ℕ, ◌*◌, ◌≤◌, T, pos, ◌≤ℤ◌}
use Rattle.std.specs.Prelude.{All}
use Rattle.life_model.specs.Generation.{is_rising}
use Rattle.life_cells.specs.Dots.{IsInField, IsLeftOf, weights, values_text}
use Rattle.life_cells.proofs.Columns.{joined}
use Rattle.life_cells.proofs.writer.text_of.Given as goal

-- the strips so far are written, and the rest has the cells of the others
abbrev pub invariant-strips : goal.invariant-strips
invariant-strips l = record {
  rising : T (is_rising l.rest);
  placed : All IsInField l.rest;
  below : All (λ c. pos (5 * l.strip) ≤ℤ c.1) l.rest;
  values : (k x : ℕ) → l.strip ≤ k → weights k l.cells x ≡ weights k l.rest x;
  columns : (wide : ℕ) → All (IsLeftOf wide) l.cells → All (IsLeftOf wide) l.rest;
  text : (wide : ℕ) → All (IsLeftOf wide) l.cells → l.text.items ≡ joined (λ k. values_text (weights k l.cells) wide) l.strip;
}
