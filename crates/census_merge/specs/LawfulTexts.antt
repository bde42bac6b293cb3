-- Texts that are lawful reports.
use Rattle.std.specs.Prelude.{◌≡◌, ℕ, ◌<◌, List, length}
use Rattle.std.specs.List.{AllByRecursion as Each}
use Rattle.census_format.specs.Lines.{Collection}
use Rattle.census_merge.specs.Joining.{EachIsReportOf, texts}
use Rattle.census_merge.specs.Lawful.{AreLawful}

-- The text is lawful reports, one after another: something lawful is said of the collections of each, and the report is that of
-- what is said.
pub record IsLawfulText (text : List ℕ) : Type 0 where
  pub parts : List (List Collection)
  pub reports : List (List ℕ)
  pub some : 0 < length parts
  pub lawful : Each AreLawful parts
  pub each : EachIsReportOf parts reports
  pub whole : text ≡ texts reports
