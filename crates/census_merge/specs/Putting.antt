-- Rows that are written, numbered on.
use Rattle.std.specs.Prelude.{◌≡◌, ◌≤◌, true, Some, None as Nothing, Option, List, [], MatchOption}
use Rattle.watched.specs.Telling.{Sheet, TellsAfter}
use Rattle.census_readback.specs.Limits.{count_limit}
use Rattle.census_readback.specs.Steps.{collection_of}
use Rattle.census_rows.specs.declared.row.Row.{Row}
use Rattle.census_rows.specs.Lines.{line_of, text_of}
use Rattle.census_merge.specs.declared.report_sums.Sums.{Sums}
use Rattle.census_merge.specs.Merged.{numbered_on, renumbered_row}
use Rattle.census_merge.specs.Sums.{sums_in, sums_of, with_more}

-- for a row that ends a report nothing is written, and its sums are added; for any other row its line is written
abbrev pub PutsEnd : Option Sums → Sums → Row → Option Sums → Sheet → Sheet → Type 0
PutsEnd Nothing sums row after a b = (collection_of row ≤ count_limit → TellsAfter (line_of (renumbered_row sums.collections row)) a b) × (after ≡ Some sums)
PutsEnd (Some more) sums row after a b = TellsAfter [] a b × (after ≡ with_more sums more)

abbrev pub PutsRow : Sums → Row → Option Sums → Sheet → Sheet → Type 0
PutsRow sums row after a b = PutsEnd (sums_of row) sums row after a b

-- the rows are written without `end` rows, and these are the sums of all; there are none only where the writer has failed
pub record PutsRows (sums : Sums) (rows : List Row) (after : Option Sums) (a b : Sheet) : Type 0 where
  pub told : TellsAfter (text_of (numbered_on sums.collections rows)) a b
  pub all : MatchOption after (b.failed ≡ true) (λ all. all ≡ sums_in sums rows)
