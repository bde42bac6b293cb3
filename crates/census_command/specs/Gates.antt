-- What the gate is told.
use Rattle.std.specs.Prelude.{◌≡◌, ◌⊎◌, ℕ, Bool, true, false, List, Option}
use Rattle.watched.specs.Streams.{Reader}
use Rattle.census_bundle.specs.declared.bundle.Folder.{Folder}
use Rattle.census_cli.specs.Asking.{Asks, AsksFor}
use Rattle.census_cli.specs.Refusing.{AsksHelp}
use Rattle.census_cli.specs.declared.request.Asked.{Asked as Wanted}
use Rattle.census_cli.specs.declared.request.Request.{Request}
use Rattle.census_cli.specs.declared.request.Request.TheVariants.{Census}
use Rattle.census_crew.specs.Bytes.{ReadsFolders}
use Rattle.census_crew.specs.Gates.{Hears, News, news_of}
use Rattle.census_errors.specs.Messages.{run_status}
use Rattle.census_errors.specs.Sources.{Source, Input, Folders, source_of}
use Rattle.census_errors.specs.declared.run_error.RunError.{RunError}
use Rattle.census_folders.specs.Sources.{Asked, Reads}
use Rattle.census_folders.specs.Tellings.{Tellings}
use Rattle.census_folders.specs.declared.reading.Kept.{Kept}
use Rattle.census_command.specs.Keeps.{StopsKeeping}

-- what a gate was told, as far as it is known
abbrev pub Heard : Type 0
Heard = Option (List News)

-- # Of a run

-- how many patterns the bundle has, and that the run has ended; nothing where it is to be quiet
abbrev pub HearsBundle : Bool → List Folder → Heard → Heard → Type 0
HearsBundle true bundle old new = new ≡ old
HearsBundle false bundle old new = Hears old new (news_of bundle)

-- standard input, read to its end, is the text of a bundle, and the gate was told of its run
pub record HearsInput (quiet : Bool) (before after : Reader) (old new : Heard) : Type 0 where
  pub bundle : List Folder
  pub read : ReadsFolders before.unread after.unread bundle
  pub heard : HearsBundle quiet bundle old new

-- the folders were read, according to the shelf, and the gate was told of their run
pub record HearsFolders (shelf : Tellings) (asked : Asked) (quiet : Bool) (old new : Heard) : Type 0 where
  pub kept : Kept
  pub read : Reads shelf asked kept
  pub heard : HearsBundle quiet kept.bundle old new

-- the gate was told of the run of what comes from there
abbrev pub HearsRun : Tellings → Source → Bool → Reader → Reader → Heard → Heard → Type 0
HearsRun shelf Input quiet before after old new = HearsInput quiet before after old new
HearsRun shelf (Folders asked) quiet before after old new = HearsFolders shelf asked quiet old new

-- folders were read whatever is lost, and the gate was told of their run; or they were not, for this error, and the gate was told
-- nothing
abbrev pub HearsKept : Tellings → Asked → Bool → ℕ → Heard → Heard → Type 0
HearsKept shelf asked quiet status old new =
    HearsFolders shelf asked quiet old new ⊎ ((error : RunError) × StopsKeeping shelf asked error × (status ≡ run_status error) × (new ≡ old))

-- # Of what is asked for

-- no census is asked for
abbrev pub AsksForNone : Request → Type 0
AsksForNone (Census census) = ⊥
AsksForNone request = Unit {0}

-- where a census is asked for, the gate was told of its run, otherwise nothing
abbrev pub HearsRequest : Tellings → Request → Bool → Reader → Reader → Heard → Heard → Type 0
HearsRequest shelf (Census census) quiet before after old new =
    HearsRun shelf (source_of census.collections) quiet before after old new
HearsRequest shelf request quiet before after old new = new ≡ old

-- By the exit status of what was asked for: where a census was done, the gate was told of its run; otherwise of it, or nothing.
abbrev pub HearsEnd : Tellings → Request → Bool → ℕ → Reader → Reader → Heard → Heard → Type 0
HearsEnd shelf request quiet status before after old new =
    HearsRequest shelf request quiet before after old new ⊎ ((status ≡ 0 → AsksForNone request) × (new ≡ old))

-- the words ask for no census: for something else, or for help
abbrev pub AskForNoCensus : List (List ℕ) → Type 0
AskForNoCensus words = ((request : Request) × Asks words request × AsksForNone request) ⊎ AsksHelp words

-- What the gate was told, by the exit status: where a census was done, of its run; otherwise of it, or nothing. With
-- `--no-progress` it was told nothing.
abbrev pub HearsOutcome : Tellings → List (List ℕ) → ℕ → Reader → Reader → Heard → Heard → Type 0
HearsOutcome shelf words status before after old new =
    ((asked : Wanted) × AsksFor words asked × HearsRequest shelf asked.request asked.quiet before after old new)
    ⊎ ((status ≡ 0 → AskForNoCensus words) × (new ≡ old))
