-- What the words of a command line ask for, by the matches that clap returns for them.
use Rattle.std.specs.Prelude.{◌≡◌, ◌≢◌, ◌&&◌, ◌||◌, ℕ, List, [], ◌∷◌, Bool, false, true, not, Option, Some, None, IsSomeAnd, is_none, map, codes}
use Rattle.std.specs.Prelude.{if◌then◌else◌, nat_eq, option_and_then, option_map, unwrap_or}
use Rattle.std.specs.List.{find, starts_with}
use Rattle.std.specs.Option.{option_map_or}
use Rattle.std.specs.Str.{bytes_eq}
use Rattle.std.specs.Str.Parse.{digits_value, without_leading_plus}
use Rattle.clap.specs.Faults.{fault_of}
use Rattle.clap.specs.Simple.{subcommand_of}
use Rattle.clap.specs.Walk.{Row, all_of, first_of, one_of}
use Rattle.life_answer.specs.declared.question.Question.{Question}
use Rattle.life_answer.specs.declared.question.Question.TheVariants.{Objects, Settles}
use Rattle.census_cli.specs.CommandLine.{census_app}
use Rattle.census_cli.specs.declared.request.Asked.{Asked}
use Rattle.census_cli.specs.declared.request.Collections.{Collections}
use Rattle.census_cli.specs.declared.request.PageAsked.{PageAsked}
use Rattle.census_cli.specs.declared.request.PageSort.{PageSort}
use Rattle.census_cli.specs.declared.request.PageSort.TheVariants.{Report, Count, Rare, Code, Period, Name}
use Rattle.census_cli.specs.declared.request.Reports.{Reports}
use Rattle.census_cli.specs.declared.request.Request.{Request}
use Rattle.census_cli.specs.declared.request.Request.TheVariants.{Census, Identify, Advance, Draw, Merge, Table, Page, Same, Starts, Verify}
use Rattle.census_cli.specs.declared.request.TableFormat.{TableFormat}
use Rattle.census_cli.specs.declared.request.TableFormat.TheVariants.{Csv, Json}
use Rattle.census_cli.specs.declared.request.TableSubject.{TableSubject}
use Rattle.census_cli.specs.declared.request.TableSubject.TheVariants.{Patterns, Parts, Engines, Codes}

-- ---- what the matches of a command say

-- the number of an argument
abbrev pub argument_number : List ℕ → List Row → Option ℕ
argument_number id rows = option_map (λ text. digits_value 10 (without_leading_plus text)) (one_of id rows)

-- the values of an argument, none where it was not used
abbrev pub values_of : List ℕ → List Row → List (List ℕ)
values_of id rows = unwrap_or (all_of id rows) []

-- whether a flag was used
abbrev pub is_used : List ℕ → List Row → Bool
is_used id rows = option_map_or (λ text. bytes_eq text (codes "true")) (one_of id rows) false

-- the format of a table: CSV, safe or not, where JSON is not asked for, or JSON alone
abbrev pub format_asked : List Row → Option TableFormat
format_asked rows =
    if not (is_used (codes "json") rows) then Some (Csv (is_used (codes "safe") rows))
    else (if is_used (codes "csv") rows || is_used (codes "safe") rows then None else Some Json)

-- whether the rare codes come first in the order of codes that a word names, where it names one
abbrev pub rarity : List ℕ → Option Bool
rarity word = if bytes_eq word (codes "report") then Some false else (if bytes_eq word (codes "rare") then Some true else None)

-- codes, in an order that there is; those without a name alone only where there are names
abbrev pub codes_asked : List Row → Option TableSubject
codes_asked rows =
    if is_used (codes "unnamed") rows && is_none (first_of (codes "names") rows) then None
    else option_map (λ rare. Codes rare (is_used (codes "unnamed") rows)) (option_map_or rarity (first_of (codes "sort") rows) (Some false))

-- what is no code, where no option is about codes
abbrev pub others_asked : List Row → TableSubject → Option TableSubject
others_asked rows subject = if is_used (codes "unnamed") rows || not (is_none (first_of (codes "sort") rows)) then None else Some subject

-- what the rows are about, where `parts`, `engines` and `codes` are flags: at most one of them is used
abbrev pub subject_by : Bool → Bool → Bool → List Row → Option TableSubject
subject_by false false true rows = codes_asked rows
subject_by false false false rows = others_asked rows Patterns
subject_by true false false rows = others_asked rows Parts
subject_by false true false rows = others_asked rows Engines
subject_by _ _ _ rows = None

-- what each of its rows is about: a pattern, or what one flag names
abbrev pub subject_asked : List Row → Option TableSubject
subject_asked rows = subject_by (is_used (codes "parts") rows) (is_used (codes "engines") rows) (is_used (codes "codes") rows) rows

-- the order that a word names, where it names one
abbrev pub order_of : List ℕ → Option PageSort
order_of word =
    option_map (λ (order : List ℕ × PageSort). order.1) (find (λ order. bytes_eq word order.0)
    ((codes "report", Report) ∷ (codes "count", Count) ∷ (codes "rare", Rare) ∷ (codes "code", Code)
    ∷ (codes "period", Period) ∷ (codes "name", Name) ∷ []))

-- whether a text begins as the address of a page does
abbrev pub is_address : List ℕ → Bool
is_address text = starts_with nat_eq text (codes "http://") || starts_with nat_eq text (codes "https://")

-- whether `same` compares patterns at the start; of them nothing was cut, and of reports there are none below others
abbrev pub starts_by : Bool → Bool → Bool → Option Bool
starts_by true false recursive = Some true
starts_by false cut false = Some false
starts_by _ _ _ = None

abbrev pub starts_asked : List Row → Option Bool
starts_asked rows = starts_by (is_used (codes "starts") rows) (is_used (codes "cut") rows) (is_used (codes "recursive") rows)

-- which reports are read, and how: none for the one on standard input
abbrev pub GivesReports : List Row → Reports → Type 0
GivesReports rows reports =
    (is_used (codes "cut") rows ≡ reports.cut) × (argument_number (codes "input") rows ≡ reports.input)
    × (values_of (codes "report") rows ≡ map (λ s. s.now) reports.words.items)

-- which folders are read, and how: none for the bundle on standard input
abbrev pub GivesCollections : List Row → Collections → Type 0
GivesCollections rows asked =
    (argument_number (codes "input") rows ≡ asked.input) × (is_used (codes "recursive") rows ≡ asked.recursive)
    × (is_used (codes "keep-going") rows ≡ asked.keep_going)
    × (values_of (codes "folder") rows ≡ map (λ s. s.now) asked.folders.items)

-- which folders are read whose patterns are compared at the start, and how: up to the first thing that can't be read
abbrev pub GivesStarts : List Row → Collections → Type 0
GivesStarts rows asked =
    (starts_asked rows ≡ Some true) × (argument_number (codes "input") rows ≡ asked.input)
    × (is_used (codes "recursive") rows ≡ asked.recursive) × (asked.keep_going ≡ false)
    × (values_of (codes "report") rows ≡ map (λ s. s.now) asked.folders.items)

-- how far objects are looked for, in which patterns, and what is one object
abbrev pub GivesObjects : List Row → ℕ → Option ℕ → Bool → ℕ → Type 0
GivesObjects rows bound cells near horizon =
    (argument_number (codes "bound") rows ≡ Some bound) × (argument_number (codes "cells") rows ≡ cells)
    × (is_used (codes "near") rows ≡ near) × (argument_number (codes "horizon") rows ≡ Some horizon)

-- the command of this name asks this of each pattern of collections
abbrev pub GivesQuestion : List ℕ → List Row → Question → Type 0
GivesQuestion name rows (Settles bound cells) =
    (name ≡ codes "run") × (argument_number (codes "bound") rows ≡ Some bound)
    × (argument_number (codes "cells") rows ≡ cells)
GivesQuestion name rows (Objects bound cells near horizon) =
    (name ≡ codes "objects") × GivesObjects rows bound cells near horizon

-- what a page has in addition to what the reports say
abbrev pub GivesPage : List Row → PageAsked → Type 0
GivesPage rows page =
    (first_of (codes "title") rows ≡ option_map (λ s. s.now) page.title)
    × (first_of (codes "note") rows ≡ option_map (λ s. s.now) page.note)
    × (option_and_then order_of (first_of (codes "sort") rows) ≡ Some page.sort)
    × (argument_number (codes "top") rows ≡ page.top)
    × (first_of (codes "base") rows ≡ option_map (λ s. s.now) page.base)
    × (option_map is_address (first_of (codes "base") rows) ≢ Some false)
    × (is_used (codes "links") rows ≡ page.links) × (is_used (codes "no-patterns") rows ≡ not page.patterns)

-- The command of this name, with these matches, asks for this. A file that is not named is standard input.
abbrev pub Gives : List ℕ → List Row → Request → Type 0
Gives name rows (Census census) =
    GivesQuestion name rows census.question × (argument_number (codes "workers") rows ≡ Some census.workers)
    × GivesCollections rows census.collections
Gives name rows (Identify bound cells near horizon json names files) =
    (name ≡ codes "identify") × GivesObjects rows bound (Some cells) near horizon × (is_used (codes "json") rows ≡ json)
    × (first_of (codes "names") rows ≡ option_map (λ s. s.now) names)
    × (values_of (codes "file") rows ≡ map (λ s. s.now) files.items)
Gives name rows (Advance generations cells file) =
    (name ≡ codes "advance") × (argument_number (codes "generations") rows ≡ Some generations)
    × (argument_number (codes "cells") rows ≡ cells) × (first_of (codes "file") rows ≡ option_map (λ s. s.now) file)
Gives name rows (Draw code rule) =
    (name ≡ codes "draw") × (first_of (codes "code") rows ≡ Some code.now)
    × (first_of (codes "rule") rows ≡ Some rule.now)
Gives name rows (Merge reports) = (name ≡ codes "merge") × GivesReports rows reports
Gives name rows (Table subject format names reports) =
    (name ≡ codes "table") × (subject_asked rows ≡ Some subject) × (format_asked rows ≡ Some format)
    × (first_of (codes "names") rows ≡ option_map (λ s. s.now) names) × GivesReports rows reports
Gives name rows (Page page names reports) =
    (name ≡ codes "page") × GivesPage rows page × (first_of (codes "names") rows ≡ option_map (λ s. s.now) names)
    × GivesReports rows reports
Gives name rows (Same json reports) =
    (name ≡ codes "same") × (is_used (codes "json") rows ≡ json) × (starts_asked rows ≡ Some false) × GivesReports rows reports
Gives name rows (Starts json asked) = (name ≡ codes "same") × (is_used (codes "json") rows ≡ json) × GivesStarts rows asked
Gives name rows (Verify claims reports) =
    (name ≡ codes "verify") × (first_of (codes "claims") rows ≡ Some claims.now) × GivesReports rows reports

-- whether a flag of the command was used
abbrev pub Uses : List ℕ → Option (List ℕ × List Row) → Bool → Type 0
Uses id command used = IsSomeAnd command (λ c. is_used id c.1 ≡ used)

-- ---- what the words ask for

-- clap has matches for the words: it refuses nothing
abbrev pub IsMatched : List (List ℕ) → Type 0
IsMatched words = fault_of census_app words ≡ []

-- the words ask for this
abbrev pub Asks : List (List ℕ) → Request → Type 0
Asks words request = IsMatched words × IsSomeAnd (subcommand_of census_app words) (λ c. Gives c.0 c.1 request)

-- whether the words ask that faults be explained
abbrev pub AsksToExplain : List (List ℕ) → Bool → Type 0
AsksToExplain words used = Uses (codes "explain") (subcommand_of census_app words) used

-- whether the words ask that no progress be reported
abbrev pub AsksForQuiet : List (List ℕ) → Bool → Type 0
AsksForQuiet words used = Uses (codes "no-progress") (subcommand_of census_app words) used

-- the words ask for this, with its faults explained or not, and with its progress reported or not
abbrev pub AsksFor : List (List ℕ) → Asked → Type 0
AsksFor words asked =
    Asks words asked.request × Uses (codes "explain") (subcommand_of census_app words) asked.explain
    × Uses (codes "no-progress") (subcommand_of census_app words) asked.quiet
