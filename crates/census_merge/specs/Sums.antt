-- How many collections and patterns several reports have.
use Rattle.std.specs.Prelude.{ℕ, ◌+◌, ◌-◌, ◌^◌, ◌&&◌, nat_le, if◌then◌else◌, Option, Some, None as Nothing, List, [], ◌∷◌}
use Rattle.census_rows.specs.declared.row.Row.{Row}
use Rattle.census_rows.specs.declared.row.Row.TheVariants.{End}
use Rattle.census_readback.specs.Limits.{count_limit}
use Rattle.census_merge.specs.declared.report_sums.Sums.{Sums}

-- the sums of no report
abbrev pub no_sums : Sums
no_sums = record { collections = 0; patterns = 0 }

-- the sums of the report that a row ends
abbrev pub sums_of : Row → Option Sums
sums_of (End collections patterns) = Some (record { collections = collections; patterns = patterns })
sums_of _ = Nothing

abbrev pub sums_plus : Sums → Sums → Sums
sums_plus s more = record { collections = s.collections + more.collections; patterns = s.patterns + more.patterns }

-- the sums with those of one more report: at most 65,535 collections, and no more patterns than 64 bits can count
abbrev pub with_more : Sums → Sums → Option Sums
with_more s more =
    if nat_le more.collections (count_limit - s.collections) && nat_le more.patterns (2 ^ 64 - 1 - s.patterns) then Some (sums_plus s more) else Nothing

-- the sums of all reports, where s are those of the reports before the rows
abbrev pub sums_in : Sums → List Row → Sums
sums_in s [] = s
sums_in s (row ∷ rows) = elim (sums_of row) [ Nothing ↦ sums_in s rows | Some more ↦ sums_in (sums_plus s more) rows ]

-- the number of the first report with which there are too many, where `report` is that of the next
abbrev pub first_excess : ℕ → Sums → List Row → Option ℕ
first_excess report s [] = Nothing
first_excess report s (row ∷ rows) =
    elim (sums_of row) [
      | Nothing ↦ first_excess report s rows
      | Some more ↦ elim (with_more s more) [ Nothing ↦ Some report | Some all ↦ first_excess (report + 1) all rows ]
    ]
