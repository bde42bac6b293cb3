use Rattle.std.proofs.Common.{◌≡◌, ℕ, ◌-◌, ◌<◌, ◌≤◌, ◌++◌, length, map}
use Rattle.std.specs.Prelude.{All}
use Rattle.std.specs.List.{range_with_len}
use Rattle.std.specs.List.Sorted.{IsNonDecreasingBy}
use Rattle.life_cells.specs.Limits.{extent_limit}
use Rattle.life_cells.specs.Wechsler.{columns_text}
use Rattle.life_cells.specs.Dots.{dots_value, values_text}
use Rattle.life_cells.proofs.writer.push_columns.Given as goal

-- the columns before `written` are written, and the rest has the others
abbrev pub invariant-columns : goal.invariant-columns
invariant-columns l = record {
  sorted : IsNonDecreasingBy (λ d. d.0) l.rest;
  live : All (λ d. 0 < d.1) l.rest;
  small : (x : ℕ) → dots_value l.rest x < 36;
  placed : All (λ d. d.0 < extent_limit) l.rest;
  ahead : All (λ d. l.written ≤ d.0) l.rest;
  values : (x : ℕ) → l.written ≤ x → dots_value l.dots x ≡ dots_value l.rest x;
  columns : (wide : ℕ) → All (λ d. d.0 < wide) l.dots → All (λ d. d.0 < wide) l.rest;
  text : (wide : ℕ) → All (λ d. d.0 < wide) l.dots → l.initial.text.items ++ values_text (dots_value l.dots) wide ≡ l.text.items ++ columns_text 0 (map (dots_value l.dots) (range_with_len l.written (wide - l.written)));
}

abbrev pub decreases-columns : goal.decreases-columns
decreases-columns l = length l.rest
