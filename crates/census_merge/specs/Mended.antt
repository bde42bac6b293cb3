-- Texts that were cut, and what they are mended to.
use Rattle.std.specs.Prelude.{◌≡◌, ◌≢◌, ℕ, ◌+◌, ◌-◌, ◌++◌, List, length, count_by, MatchOption}
use Rattle.census_rows.specs.declared.row.Row.{Row}
use Rattle.census_rows.specs.Lines.{text_of}
use Rattle.census_readback.specs.Reports.{IsFault, ReadsAsReports}
use Rattle.census_readback.specs.Texts.{AllLines, HasNoFeed}
use Rattle.census_merge.specs.Feeds.{feeds}
use Rattle.census_merge.specs.Kept.{is_close, is_open, kept_rows}
use Rattle.census_merge.specs.declared.mending.Cut.{Cut}
use Rattle.census_merge.specs.declared.mending.Mended.{Mended}

-- The text was cut: its rows are on whole lines, no LF comes after these, and its first wrong line is the one after its last
-- whole line. It is mended to a report, or several, of those of its rows that are kept. The cut says how many whole lines the
-- text has, how many of its collections are closed, and how many are not.
pub record IsCutTo (text : List ℕ) (mended : List ℕ) (cut : Cut) : Type 0 where
  pub rows : List Row
  pub rest : List ℕ
  pub lines : AllLines rows
  pub front : text ≡ text_of rows ++ rest
  pub unfed : HasNoFeed rest
  pub fault : IsFault text (feeds text + 1)
  pub count : feeds text ≡ length rows
  pub kept : ReadsAsReports (kept_rows rows) mended
  pub line_is : cut.line ≡ feeds text
  pub kept_is : cut.kept ≡ count_by is_close rows
  pub left_is : cut.left ≡ count_by is_open rows - count_by is_close rows

-- a text that is a report, or several, is mended to itself
pub record IsWholeText (text : List ℕ) (mended : List ℕ) : Type 0 where
  pub rows : List Row
  pub reads : ReadsAsReports rows text
  pub same : mended ≡ text

abbrev pub IsMended : List ℕ → Mended → Type 0
IsMended text m = MatchOption m.cut (IsWholeText text m.text.items) (λ cut. IsCutTo text m.text.items cut)

-- The text is neither a report nor several, and was not cut: this is its first wrong line, and it is not the one after its last
-- whole line.
abbrev pub IsBroken : List ℕ → ℕ → Type 0
IsBroken text line = IsFault text line × (line ≢ feeds text + 1)
