-- What the matches of a command hold whenever clap returns them, and what the parts that read them return.
use Rattle.std.specs.Prelude.{◌≡◌, ◌⊎◌, ℕ, ◌≤◌, List, Bool, Option, Some, None, IsSomeAnd, codes}
use Rattle.clap.specs.Values.{IsUnsignedIn, bool_text}
use Rattle.clap.specs.Walk.{Row, first_of, one_of}
use Rattle.life_answer.specs.Questions.{IsAnswered}
use Rattle.life_answer.specs.declared.question.Question.{Question}
use Rattle.life_answer.specs.declared.question.Question.TheVariants.{Objects, Settles}
use Rattle.census_cli.specs.Asking.{Asks, Gives, Uses}
use Rattle.census_cli.specs.Limits.{generation_limit, horizon_limit, objects_bound_limit, settles_bound_limit, worker_limit}
use Rattle.census_cli.specs.Refusing.{IsStrange}
use Rattle.census_cli.specs.declared.fault.WordsFault.{WordsFault}
use Rattle.census_cli.specs.declared.fault.WordsFault.TheVariants.{Help, Refused, Memory}
use Rattle.census_cli.specs.declared.request.Asked.{Asked}
use Rattle.census_cli.specs.declared.request.Request.{Request}
use Rattle.census_cli.specs.declared.request.Request.TheVariants.{Census, Identify, Advance, Draw, Merge, Table, Page, Same, Starts, Verify}

-- whether a flag was used, by its text
abbrev pub IsFlag : List ℕ → List Row → Bool → Type 0
IsFlag id rows used = one_of id rows ≡ Some (bool_text used)

-- the command reports no progress, and has no flag that says so
abbrev pub HasNoProgress : List Row → Type 0
HasNoProgress rows = one_of (codes "no-progress") rows ≡ None

-- a number of this range
abbrev pub HasNumberIn : ℕ → ℕ → List ℕ → List Row → Type 0
HasNumberIn low high id rows = (text : List ℕ) × (one_of id rows ≡ Some text) × IsUnsignedIn low high text

-- a number that fits 32 bits
abbrev pub HasNumber : List ℕ → List Row → Type 0
HasNumber id rows = HasNumberIn 0 4294967295 id rows

-- a number from 1 to the most, or none
abbrev pub HasLimit : ℕ → List ℕ → List Row → Type 0
HasLimit most id rows = (one_of id rows ≡ None) ⊎ HasNumberIn 1 most id rows

-- a flag, used or not
abbrev pub HasFlag : List ℕ → List Row → Type 0
HasFlag id rows = (used : Bool) × IsFlag id rows used

-- a text
abbrev pub HasText : List ℕ → List Row → Type 0
HasText id rows = (text : List ℕ) × (first_of id rows ≡ Some text)

-- the matches of a census say how its collections are read
pub record HasCollections (rows : List Row) : Type 0 where
  pub input : HasLimit 9223372036854775807 (codes "input") rows
  pub recursive : HasFlag (codes "recursive") rows
  pub keep_going : HasFlag (codes "keep-going") rows

-- the matches of `run` have their numbers and flags
pub record HasRun (rows : List Row) : Type 0 where
  pub bound : HasNumberIn 1 settles_bound_limit (codes "bound") rows
  pub workers : HasNumberIn 1 worker_limit (codes "workers") rows
  pub cells : HasLimit 4294967295 (codes "cells") rows
  pub collections : HasCollections rows
  pub explain : HasFlag (codes "explain") rows
  pub no_progress : HasFlag (codes "no-progress") rows

-- the matches of `objects` have their numbers and flags
pub record HasObjects (rows : List Row) : Type 0 where
  pub bound : HasNumberIn 1 objects_bound_limit (codes "bound") rows
  pub workers : HasNumberIn 1 worker_limit (codes "workers") rows
  pub cells : HasNumberIn 1 4294967295 (codes "cells") rows
  pub near : HasFlag (codes "near") rows
  pub horizon : HasNumberIn 1 horizon_limit (codes "horizon") rows
  pub collections : HasCollections rows
  pub explain : HasFlag (codes "explain") rows
  pub no_progress : HasFlag (codes "no-progress") rows

-- the matches of `identify` have their numbers and flags
pub record HasIdentify (rows : List Row) : Type 0 where
  pub bound : HasNumberIn 1 objects_bound_limit (codes "bound") rows
  pub cells : HasNumberIn 1 4294967295 (codes "cells") rows
  pub near : HasFlag (codes "near") rows
  pub horizon : HasNumberIn 1 horizon_limit (codes "horizon") rows
  pub json : HasFlag (codes "json") rows
  pub explain : HasFlag (codes "explain") rows
  pub no_progress : HasNoProgress rows

-- the matches of `advance` have their numbers and flag
pub record HasAdvance (rows : List Row) : Type 0 where
  pub generations : HasNumberIn 0 generation_limit (codes "generations") rows
  pub cells : HasLimit 4294967295 (codes "cells") rows
  pub explain : HasFlag (codes "explain") rows
  pub no_progress : HasNoProgress rows

-- the matches of `draw` have their texts and flag
pub record HasDraw (rows : List Row) : Type 0 where
  pub code : HasText (codes "code") rows
  pub rule : HasText (codes "rule") rows
  pub explain : HasFlag (codes "explain") rows
  pub no_progress : HasNoProgress rows

-- the matches of a command that reads reports say how these are read; those of `merge` hold no more
pub record HasReports (rows : List Row) : Type 0 where
  pub cut : HasFlag (codes "cut") rows
  pub input : HasLimit 9223372036854775807 (codes "input") rows
  pub explain : HasFlag (codes "explain") rows
  pub no_progress : HasNoProgress rows

-- the matches of `table` have their flags
pub record HasTable (rows : List Row) : Type 0 where
  pub csv : HasFlag (codes "csv") rows
  pub json : HasFlag (codes "json") rows
  pub safe : HasFlag (codes "safe") rows
  pub of_parts : HasFlag (codes "parts") rows
  pub of_codes : HasFlag (codes "codes") rows
  pub of_engines : HasFlag (codes "engines") rows
  pub unnamed : HasFlag (codes "unnamed") rows
  pub reports : HasReports rows

-- the matches of `page` have their text, number and flags
pub record HasPage (rows : List Row) : Type 0 where
  pub sort : HasText (codes "sort") rows
  pub top : HasLimit 4294967295 (codes "top") rows
  pub links : HasFlag (codes "links") rows
  pub no_patterns : HasFlag (codes "no-patterns") rows
  pub reports : HasReports rows

-- the matches of `same` have their flags
pub record HasSame (rows : List Row) : Type 0 where
  pub json : HasFlag (codes "json") rows
  pub starts : HasFlag (codes "starts") rows
  pub recursive : HasFlag (codes "recursive") rows
  pub reports : HasReports rows

-- the matches of `verify` have their text and flags
pub record HasVerify (rows : List Row) : Type 0 where
  pub claims : HasText (codes "claims") rows
  pub reports : HasReports rows

-- a command with the matches that it must have
abbrev pub IsCommand : Option (List ℕ × List Row) → Type 0
IsCommand None = ⊥
IsCommand (Some (name, rows)) =
    ((name ≡ codes "run") × HasRun rows)
    ⊎ (((name ≡ codes "objects") × HasObjects rows)
    ⊎ (((name ≡ codes "identify") × HasIdentify rows)
    ⊎ (((name ≡ codes "advance") × HasAdvance rows)
    ⊎ (((name ≡ codes "draw") × HasDraw rows)
    ⊎ (((name ≡ codes "merge") × HasReports rows)
    ⊎ (((name ≡ codes "table") × HasTable rows)
    ⊎ (((name ≡ codes "page") × HasPage rows)
    ⊎ (((name ≡ codes "same") × HasSame rows)
    ⊎ ((name ≡ codes "verify") × HasVerify rows)))))))))

-- ---- what the parts that read them return

-- the command and its matches ask for this
abbrev pub GivesRequest : Option (List ℕ × List Row) → Request → Type 0
GivesRequest command request = IsSomeAnd command (λ c. Gives c.0 c.1 request)

-- and say whether its faults are to be explained, and whether it is to be quiet
abbrev pub GivesAsked : Option (List ℕ × List Row) → Asked → Type 0
GivesAsked command asked =
    GivesRequest command asked.request × Uses (codes "explain") command asked.explain
    × Uses (codes "no-progress") command asked.quiet

-- why a command and its matches are not a request
abbrev pub RefusesCommand : Option (List ℕ × List Row) → WordsFault → Type 0
RefusesCommand command (Help text) = ⊥
RefusesCommand command (Refused text) = IsSomeAnd command (λ c. IsStrange c.0 c.1)
RefusesCommand command Memory = Unit {0}

-- ---- the numbers of what is asked for

-- there is no limit, or it is from 1 to the most
abbrev pub IsLimit : ℕ → Option ℕ → Type 0
IsLimit most None = Unit {0}
IsLimit most (Some n) = (1 ≤ n) × (n ≤ most)

-- the largest number of cells of a pattern, which there always is where objects are asked for
abbrev pub HasCells : Question → Type 0
HasCells (Settles bound cells) = IsLimit 4294967295 cells
HasCells (Objects bound None near horizon) = ⊥
HasCells (Objects bound (Some cells) near horizon) = IsLimit 4294967295 (Some cells)

-- its numbers are in their ranges
abbrev pub IsLawful : Request → Type 0
IsLawful (Census census) =
    IsAnswered census.question × ((1 ≤ census.workers) × (census.workers ≤ worker_limit)) × HasCells census.question
    × IsLimit 9223372036854775807 census.collections.input
IsLawful (Identify bound cells near horizon json names files) =
    IsAnswered (Objects bound (Some cells) near horizon) × IsLimit 4294967295 (Some cells)
IsLawful (Advance generations cells file) = (generations ≤ generation_limit) × IsLimit 4294967295 cells
IsLawful (Draw code rule) = Unit {0}
IsLawful (Merge reports) = IsLimit 9223372036854775807 reports.input
IsLawful (Table subject format names reports) = IsLimit 9223372036854775807 reports.input
IsLawful (Page page names reports) = IsLimit 4294967295 page.top × IsLimit 9223372036854775807 reports.input
IsLawful (Same json reports) = IsLimit 9223372036854775807 reports.input
IsLawful (Starts json collections) = IsLimit 9223372036854775807 collections.input
IsLawful (Verify claims reports) = IsLimit 9223372036854775807 reports.input

-- they are where words ask for it, as clap refuses others
abbrev pub AskedAreLawful : Type 0
AskedAreLawful = (words : List (List ℕ)) (request : Request) → Asks words request → IsLawful request
