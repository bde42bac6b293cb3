-- Reports that are counted, row by row.
use Rattle.std.specs.Prelude.{◌≡◌, ℕ, ◌+◌, Some, None as Nothing, Option, List, ◌++◌}
use Rattle.census_rows.specs.declared.row.Row.{Row}
use Rattle.census_merge.specs.declared.merging.Counted.{Counted}
use Rattle.census_merge.specs.declared.report_sums.Sums.{Sums}
use Rattle.census_merge.specs.Sums.{first_excess, no_sums, sums_in, with_more}

-- before any report
abbrev pub nothing_counted : Counted
nothing_counted = record { sums = no_sums; report = 1 }

abbrev pub counted_with : ℕ → Option Sums → Option Counted
counted_with report Nothing = Nothing
counted_with report (Some all) = Some (record { sums = all; report = report + 1 })

-- after the row that ends a report with these sums, or after another
abbrev pub counted_end : Counted → Option Sums → Option Counted
counted_end c Nothing = Some c
counted_end c (Some more) = counted_with c.report (with_more c.sums more)

-- whatever rows follow, these are counted
pub record Counts (before : Counted) (rows : List Row) (after : Counted) : Type 0 where
  pub sums : (others : List Row) → sums_in before.sums (rows ++ others) ≡ sums_in after.sums others
  pub excess : (others : List Row) → first_excess before.report before.sums (rows ++ others) ≡ first_excess after.report after.sums others

-- whatever rows follow, with this report there are too many
abbrev pub Exceeds : Counted → List Row → ℕ → Type 0
Exceeds before rows report = (others : List Row) → first_excess before.report before.sums (rows ++ others) ≡ Some report
