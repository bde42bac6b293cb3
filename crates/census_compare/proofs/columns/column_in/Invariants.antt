use Rattle.std.proofs.Common.{◌≡◌, drop, find, nat_eq}
use Rattle.std.specs.Cmp.Lexicographic.{pointwise}
use Rattle.census_table.specs.Columns.{name_of}
use Rattle.census_compare.proofs.columns.column_in.Given as goal

abbrev pub invariant-loop-column : goal.invariant-loop-column
invariant-loop-column l =
    find (λ column. pointwise nat_eq l.title (name_of column)) (drop l.column-index l.columns) ≡ find (λ column. pointwise nat_eq l.title (name_of column)) l.columns
