-- Texts that are reports.
use Rattle.std.specs.Prelude.{ℕ, ◌+◌, ◌≡◌, ◌≢◌, ◌++◌, List, [], length, MatchOption}
use Rattle.census_rows.specs.declared.row.Row.{Row}
use Rattle.census_readback.specs.Shapes.{AreReports}
use Rattle.census_readback.specs.Steps.{initial_reading, first_stray}
use Rattle.census_readback.specs.Told.{nothing_told}
use Rattle.census_readback.specs.Texts.{AllLines, IsStuck}
use Rattle.census_rows.specs.Lines.{text_of}

-- the text is a report of these rows, or several
pub record ReadsAsReports (rows : List Row) (text : List ℕ) : Type 0 where
  pub lines : AllLines rows
  pub whole : text ≡ text_of rows
  pub shape : AreReports rows

-- The first wrong line of the text: the first row that may not come where it does or says what no report says there, else the
-- line after the rows.
pub record IsFault (text : List ℕ) (line : ℕ) : Type 0 where
  pub rows : List Row
  pub rest : List ℕ
  pub lines : AllLines rows
  pub front : text ≡ text_of rows ++ rest
  pub stuck : IsStuck rest
  pub first : MatchOption (first_stray nothing_told initial_reading 1 rows) ((rest ≢ []) × (line ≡ length rows + 1)) (λ number. line ≡ number)
