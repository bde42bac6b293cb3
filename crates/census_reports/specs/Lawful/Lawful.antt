-- What is written of lawful reports.
use Rattle.std.specs.Prelude.{◌≡◌, ℕ, Option, List}
use Rattle.census_format.specs.Reports.{IsReportOf}
use Rattle.census_folders.specs.Told.{Told}
use Rattle.watched.specs.Streams.{Reader, Sink, Writes}
use Rattle.census_reports.specs.Outcomes.{ReadsTexts}
use Rattle.census_merge.specs.Joining.{AreBundles, Asked, EachIsReportOf, all_said, joined, texts}

-- The words have texts. Where these, one after another, are lawful reports of bundles, each under its own question, what was
-- written is the report of what is said of the bundles, one after another.
pub record MergesLawfully (limit : Option ℕ) (held : List ℕ → Told) (words : List (List ℕ)) (before after : Reader) (old new : Sink) : Type 0 where
  pub read : List (List ℕ)
  pub reads : ReadsTexts limit held words read before after
  pub made : List ℕ
  pub written : Writes made old new
  pub lawful : (asked : List Asked) (reports : List (List ℕ))
      → AreBundles asked → EachIsReportOf (all_said asked) reports → texts reports ≡ texts read → IsReportOf (joined (all_said asked)) made
