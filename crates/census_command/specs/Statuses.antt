-- What the exit status says of words that ask for what ends at the first thing that goes wrong, or for nothing that can be done.
use Rattle.std.specs.Prelude.{◌≡◌, ℕ, ◌≤◌, ◌<◌, ◌⊎◌, Bool, true, ◌||◌, List, [], option_map, Option, None, Some, Err}
use Rattle.std.specs.Io.KnownBytes.{Appends}
use Rattle.watched.specs.Streams.{PutsBytes, Streams}
use Rattle.watched.specs.Watching.{AppendsFront}
use Rattle.life_cells.specs.Rules.{rule_of}
use Rattle.life_cells.specs.declared.rule.RuleFault.{RuleFault}
use Rattle.life_cells.specs.CodeReading as wechsler
use Rattle.life_cells.specs.TextOrder.{body_of}
use Rattle.life_cells.specs.declared.reader.CodeFault.{CodeFault}
use Rattle.census_bundle.specs.declared.fault.BundleFault.{BundleFault}
use Rattle.census_bundle.specs.Sizes.{input_limit}
use Rattle.census_crew.specs.Bytes.{ReadsFault}
use Rattle.census_cli.specs.Asking.{Asks, AsksFor, AsksToExplain, IsMatched}
use Rattle.census_cli.specs.declared.request.Asked.{Asked as Wanted}
use Rattle.census_command.specs.Outcomes.{Answers, EndsAtFirst}
use Rattle.census_cli.specs.Refusing.{AreRefusedWords, AsksHelp, AsksText, RefusesWords}
use Rattle.census_cli.specs.declared.fault.WordsFault.{WordsFault}
use Rattle.census_cli.specs.declared.request.Request.{Request}
use Rattle.census_cli.specs.declared.request.Request.TheVariants.{Census, Advance, Draw}
use Rattle.census_folders.specs.Told.{MayExceed, MayFail}
use Rattle.census_folders.specs.declared.unread.Unread.{Unread}
use Rattle.census_command.specs.Advances.{ReadsTooMuch, RefusesText, Takes}
use Rattle.census_errors.specs.Files.{file_of}
use Rattle.census_errors.specs.Explained.{TellsOf}
use Rattle.census_errors.specs.Messages.{error_line, run_status, status_of}
use Rattle.census_command.specs.Requests.{Does, DoesInPart, Fails}
use Rattle.census_command.specs.Runs.{FailsInFolders, RunsInPart}
use Rattle.census_folders.specs.Tellings.{Tellings}
use Rattle.census_errors.specs.Sources.{Source, Input, Folders, source_of}
use Rattle.census_command.specs.Streams.{HasFailed, HasSoundStreams, IsUntouched, TellsBeside, WriteFails, WritesNothing, untold}
use Rattle.census_errors.specs.declared.advance_error.AdvanceError.{AdvanceError}
use Rattle.census_errors.specs.declared.error.CommandError.{CommandError}
use Rattle.census_errors.specs.declared.run_error.RunError.{RunError}
use Rattle.census_errors.specs.declared.run_error.RunError.TheVariants as run
use Rattle.census_errors.specs.declared.error.CommandError.TheVariants as command

-- # Which words these are

-- The words ask for this, which ended like this.
pub record EndsAskedAtFirst (shelf : Tellings) (words : List (List ℕ)) (at_terminal : Bool) (status : ℕ) (before after : Streams) : Type 0 where
  pub asked : Wanted
  pub is : AsksFor words asked
  pub ends : EndsAtFirst shelf asked.request (asked.explain || at_terminal) status before after

abbrev pub EndsPlainly : Tellings → List (List ℕ) → Bool → ℕ → Streams → Streams → Type 0
EndsPlainly shelf words at_terminal status before after =
    EndsAskedAtFirst shelf words at_terminal status before after
    ⊎ ((fault : WordsFault) × RefusesWords words fault × Answers fault status before after)

-- # What is explained

-- Whether faults are explained: where the words ask for that, or where standard error is a terminal.
pub record AreExplained (words : List (List ℕ)) (at_terminal explain : Bool) : Type 0 where
  pub asked : Bool
  pub is_asked : AsksToExplain words asked
  pub is : explain ≡ asked || at_terminal

-- # What is done

-- The words ask for something, and it was done. Where faults are explained, what is said beside it was reported, otherwise
-- nothing.
pub record DoesAsked (shelf : Tellings) (words : List (List ℕ)) (at_terminal : Bool) (before after : Streams) : Type 0 where
  pub request : Request
  pub explain : Bool
  pub asked : Asks words request
  pub explained : AreExplained words at_terminal explain
  pub done : Does shelf request before (untold before after)
  pub told : TellsBeside explain before.errors after.errors

-- The words ask for help or for the version, and a text that answers them was written; nothing was read.
pub record Helps (words : List (List ℕ)) (before after : Streams) : Type 0 where
  pub text : List ℕ
  pub asked : AsksText words text
  pub written : Appends before.output.written after.output.written text
  pub unread : after.input.unread ≡ before.input.unread

-- # What is refused

-- The bundle on standard input has a fault or is too long, or one of the folders.
abbrev pub RefusesCollections : Tellings → Source → Streams → Streams → Type 0
RefusesCollections shelf Input before after =
    ((fault : BundleFault) × ReadsFault before.input.unread after.input.unread fault) ⊎ ReadsTooMuch before after
RefusesCollections shelf (Folders asked) before after = (error : RunError) × FailsInFolders shelf asked error × (run_status error ≡ 1)

-- a file, or standard input where there is none, is too long
abbrev pub IsTooLong : Tellings → Option (List ℕ) → Streams → Streams → Type 0
IsTooLong shelf None before after = ReadsTooMuch before after
IsTooLong shelf (Some path) before after = MayExceed input_limit (shelf.held [] path)

-- or it has a fault, or a generation up to n with more cells than the limit
abbrev pub RefusesGiven : Tellings → Option (List ℕ) → ℕ → Option ℕ → Streams → Streams → Type 0
RefusesGiven shelf file n limit before after =
    ((error : AdvanceError) × (text : List ℕ) × Takes shelf file text before after × RefusesText error text n limit)
    ⊎ IsTooLong shelf file before after

-- the input of a request is refused
abbrev pub RefusesInput : Tellings → Request → Streams → Streams → Type 0
RefusesInput shelf (Census census) before after = RefusesCollections shelf (source_of census.collections) before after
RefusesInput shelf (Advance n limit file) before after =
    RefusesGiven shelf (file_of (option_map (λ s. s.now) file)) n limit before after
RefusesInput shelf (Draw code rule) before after =
    ((fault : RuleFault) × (rule_of rule.now ≡ Err fault))
    ⊎ ((fault : CodeFault) × (wechsler.refusal (body_of code.now) ≡ Some fault))
RefusesInput shelf _ before after = ⊥

-- The words ask for something whose input is refused.
pub record IsFaulty (shelf : Tellings) (words : List (List ℕ)) (before after : Streams) : Type 0 where
  pub request : Request
  pub asked : Asks words request
  pub refused : RefusesInput shelf request before (untold before after)

-- # What is cut short

-- The words ask for something, and it was done, but only a prefix was written: as much as the writer took.
pub record DoesAskedInPart (shelf : Tellings) (words : List (List ℕ)) (before after : Streams) : Type 0 where
  pub request : Request
  pub asked : Asks words request
  pub part : DoesInPart shelf request before (untold before after)

-- The words ask for help or for the version, and a prefix of a text that answers them was written; nothing was read.
pub record HelpsInPart (words : List (List ℕ)) (before after : Streams) : Type 0 where
  pub text : List ℕ
  pub asked : AsksText words text
  pub written : AppendsFront before.output.written after.output.written text
  pub unread : after.input.unread ≡ before.input.unread

abbrev pub ReportsInPart : Tellings → Request → Streams → Streams → Type 0
ReportsInPart shelf (Census census) before after = RunsInPart shelf (source_of census.collections) census.question before after
ReportsInPart shelf request before after = ⊥

-- The words ask for a census, and a prefix of its report was written.
pub record ReportsAskedInPart (shelf : Tellings) (words : List (List ℕ)) (before after : Streams) : Type 0 where
  pub request : Request
  pub asked : Asks words request
  pub part : ReportsInPart shelf request before (untold before after)

-- a file may not be readable, according to the shelf
abbrev pub MissesFile : Tellings → Option (List ℕ) → Type 0
MissesFile shelf None = ⊥
MissesFile shelf (Some path) = (why : Unread) × MayFail (shelf.held [] path) why

-- one of the folders could not be listed or has a file that could not be read
abbrev pub MissesSource : Tellings → Source → Type 0
MissesSource shelf Input = ⊥
MissesSource shelf (Folders asked) = FailsInFolders shelf asked run.Read

abbrev pub StopsAtFolder : Tellings → Request → Type 0
StopsAtFolder shelf (Census census) = MissesSource shelf (source_of census.collections)
StopsAtFolder shelf (Advance n limit file) = MissesFile shelf (file_of (option_map (λ s. s.now) file))
StopsAtFolder shelf _ = ⊥

-- The words ask for a census of folders, one of which could not be listed or has a file that could not be read, or for a
-- generation of a file that could not be read.
pub record MissesFolder (shelf : Tellings) (words : List (List ℕ)) : Type 0 where
  pub request : Request
  pub asked : Asks words request
  pub missed : StopsAtFolder shelf request

-- # What is reported

-- The words ask for something that failed with this error. Its line was reported, and what is said of it where faults are
-- explained.
pub record FailsAsked (error : CommandError) (shelf : Tellings) (words : List (List ℕ)) (at_terminal : Bool) (before after : Streams) : Type 0 where
  pub request : Request
  pub explain : Bool
  pub asked : Asks words request
  pub explained : AreExplained words at_terminal explain
  pub fails : Fails error shelf request before (untold before after)
  pub told : TellsOf error explain before.errors after.errors

-- The words ask for nothing that can be done: memory was refused while they were read, or help could not be written.
abbrev pub FailsReading : CommandError → List (List ℕ) → Streams → Streams → Type 0
FailsReading command.Memory words before after = IsUntouched before after
FailsReading command.Write words before after = HelpsInPart words before after × WriteFails after
FailsReading error words before after = ⊥

-- There was an error of this status, and it was reported.
pub record TellsError (shelf : Tellings) (words : List (List ℕ)) (at_terminal : Bool) (status : ℕ) (before after : Streams) : Type 0 where
  pub error : CommandError
  pub status_is : status ≡ status_of error
  pub fails : FailsAsked error shelf words at_terminal before after
      ⊎ (FailsReading error words before after × PutsBytes (error_line error) before.errors after.errors)

-- Clap refuses the words, and some text was reported; nothing was read or written.
pub record TellsRefusal (words : List (List ℕ)) (before after : Streams) : Type 0 where
  pub refused : AreRefusedWords words
  pub untouched : IsUntouched before after
  pub text : List ℕ
  pub told : PutsBytes text before.errors after.errors

-- # The exit status

-- What the exit status says of the words after the program's name, and of the standard streams before and after.
pub record Statuses (shelf : Tellings) (words : List (List ℕ)) (at_terminal : Bool) (status : ℕ) (before after : Streams) : Type 0 where
  pub known : status ≤ 4
  pub done : status ≡ 0 → DoesAsked shelf words at_terminal before after ⊎ (Helps words before after × (after.errors ≡ before.errors))
  pub quiet : status ≡ 0 → (AreExplained words at_terminal true → ⊥) → after.errors ≡ before.errors
  pub faulty : status ≡ 1 → IsFaulty shelf words before after × WritesNothing before after
  pub refused : status ≡ 2 → TellsRefusal words before after
  pub unmatched : (IsMatched words → ⊥) → (status ≡ 2) ⊎ ((status ≡ 3) ⊎ AsksHelp words)
  pub memory : status ≡ 3 → ((after.output.written ≡ before.output.written) ⊎ ReportsAskedInPart shelf words before after) × HasSoundStreams after
  pub failed : status ≡ 4 → HasFailed after ⊎ MissesFolder shelf words
  pub cut : status ≡ 4 → (after.output.written ≡ before.output.written)
      ⊎ (DoesAskedInPart shelf words before after ⊎ HelpsInPart words before after)
  pub unwritten : after.input.failed ≡ true → after.output.written ≡ before.output.written
  pub noticed : HasFailed after → status ≡ 4
  pub told : 0 < status → TellsError shelf words at_terminal status before after ⊎ TellsRefusal words before after

-- this holds for each outcome of these words
abbrev pub StatusesSay : Type 0
StatusesSay = (shelf : Tellings) (words : List (List ℕ)) (at_terminal : Bool) (status : ℕ) (before after : Streams)
    → EndsPlainly shelf words at_terminal status before after → Statuses shelf words at_terminal status before after
