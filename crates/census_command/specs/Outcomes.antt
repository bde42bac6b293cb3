-- What the program's words come to: what is written and reported, and the exit status.
use Rattle.std.specs.Prelude.{◌≡◌, ℕ, ◌⊎◌, Bool, ◌||◌, List, [], map, option_map, None, Some, Result, Ok, Err, string_bytes}
use Rattle.std.specs.Io.KnownBytes.{Appends}
use Rattle.std.specs.declared.io.ErrorKind.{ErrorKind}
use Rattle.watched.specs.Streams.{PutsBytes, Sink, Streams}
use Rattle.watched.specs.Watching.{AppendsFront}
use Rattle.census_cli.specs.Asking.{AsksFor}
use Rattle.census_cli.specs.Refusing.{RefusesWords}
use Rattle.census_cli.specs.declared.fault.WordsFault.{WordsFault}
use Rattle.census_cli.specs.declared.fault.WordsFault.TheVariants.{Help, Refused, Memory}
use Rattle.census_cli.specs.declared.request.Asked.{Asked as Wanted}
use Rattle.census_cli.specs.declared.request.Census.{Census as CensusAsked}
use Rattle.census_cli.specs.declared.request.Reports.{Reports}
use Rattle.census_cli.specs.declared.request.Request.{Request}
use Rattle.census_cli.specs.declared.request.Request.TheVariants.{Census, Identify, Advance, Draw, Merge, Table, Page, Same, Starts, Verify}
use Rattle.census_folders.specs.Sources.{Asked}
use Rattle.census_folders.specs.Tellings.{Tellings}
use Rattle.census_folders.specs.declared.loss.OnLoss.{OnLoss}
use Rattle.census_folders.specs.declared.loss.OnLoss.TheVariants.{Keep, Stop}
use Rattle.census_errors.specs.Errors.{IsArgumentsError}
use Rattle.census_errors.specs.Explained.{TellsOf}
use Rattle.census_errors.specs.Messages.{error_line, status_of}
use Rattle.census_errors.specs.Sources.{Source, Input, Folders, source_of}
use Rattle.census_errors.specs.declared.error.CommandError.{CommandError}
use Rattle.census_errors.specs.declared.error.CommandError.TheVariants as command
use Rattle.census_errors.specs.declared.stopped.Stopped.{Stopped}
use Rattle.census_page.specs.Options.{options_of}
use Rattle.census_page.specs.declared.options.PageOptions.{PageOptions}
use Rattle.census_reports.specs.declared.form.Form.{Form}
use Rattle.census_reports.specs.declared.form.Form.TheVariants as form
use Rattle.census_command.specs.Forms.{format_of, options_asked, reading_of, subject_of}
use Rattle.census_command.specs.Identifying.{TellsPatterns, form_told}
use Rattle.census_command.specs.Keeps.{Keeps}
use Rattle.census_command.specs.Remakes.{Remakes, RemakesWith}
use Rattle.census_command.specs.Requests.{Does, Fails}
use Rattle.census_command.specs.Starting.{EndsStarts}
use Rattle.census_command.specs.Streams.{HasSoundStreams, IsUntouched, TellsBeside, WriteFails, untold}
use Rattle.census_command.specs.declared.forms.Beside.{Beside}
use Rattle.census_command.specs.declared.forms.Beside.TheVariants.{Names, NamesOnPage, Claims}

-- # What ends at the first thing that goes wrong

-- It was done. Where faults are explained, what is said beside it was reported, otherwise nothing.
pub record Succeeds (shelf : Tellings) (request : Request) (explain : Bool) (status : ℕ) (before after : Streams) : Type 0 where
  pub status_is : status ≡ 0
  pub done : Does shelf request before (untold before after)
  pub sound : HasSoundStreams after
  pub told : TellsBeside explain before.errors after.errors

-- An error ended it. Its line was reported, and what is said of it where faults are explained.
pub record FailsTold (shelf : Tellings) (request : Request) (explain : Bool) (status : ℕ) (before after : Streams) : Type 0 where
  pub error : CommandError
  pub status_is : status ≡ status_of error
  pub fails : Fails error shelf request before (untold before after)
  pub told : TellsOf error explain before.errors after.errors

-- What is said beside what was done was reported, where faults are explained, or the error that ended it was.
abbrev pub Concludes : {A : Type 0} → Result A Stopped → Bool → ℕ → Sink → Sink → Type 0
Concludes (Ok lines) explain status before after = (status ≡ 0) × TellsBeside explain before after
Concludes (Err stopped) explain status before after = (status ≡ status_of stopped.error) × TellsOf stopped.error explain before after

abbrev pub EndsAtFirst : Tellings → Request → Bool → ℕ → Streams → Streams → Type 0
EndsAtFirst shelf request explain status before after =
    Succeeds shelf request explain status before after ⊎ FailsTold shelf request explain status before after

-- # A census

-- of folders, by what reading them does at a loss
abbrev pub EndsOnLoss : OnLoss → Tellings → CensusAsked → Asked → Bool → ℕ → Streams → Streams → Type 0
EndsOnLoss Keep shelf census asked explain status before after =
    Keeps shelf asked census.question explain status before after
EndsOnLoss Stop shelf census asked explain status before after = EndsAtFirst shelf (Census census) explain status before after

abbrev pub EndsCensus : Tellings → CensusAsked → Source → Bool → ℕ → Streams → Streams → Type 0
EndsCensus shelf census Input explain status before after = EndsAtFirst shelf (Census census) explain status before after
EndsCensus shelf census (Folders asked) explain status before after = EndsOnLoss asked.on_loss shelf census asked explain status before after

-- # What is made of reports

-- of these, alone
abbrev pub EndsForm : Tellings → Form → Reports → Bool → ℕ → Streams → Streams → Type 0
EndsForm shelf f reports explain status before after =
    Remakes (shelf.held []) f None (reading_of reports) (map (λ s. s.now) reports.words.items) explain status before after

-- with the text of a word, which is read before them
abbrev pub EndsBeside : Tellings → Beside → List ℕ → Reports → Bool → ℕ → Streams → Streams → Type 0
EndsBeside shelf beside word reports explain status before after =
    RemakesWith (shelf.held []) beside word (reading_of reports) (map (λ s. s.now) reports.words.items) explain status before after

-- # What is asked for

-- How it ends: what is written and reported, and the exit status.
abbrev pub Ends : Tellings → Request → Bool → ℕ → Streams → Streams → Type 0
Ends shelf (Census census) explain status before after = EndsCensus shelf census (source_of census.collections) explain status before after
Ends shelf (Identify bound cells near horizon json names files) explain status before after =
    TellsPatterns (shelf.held []) (record { bound = bound; cells = cells; near = near; horizon = horizon; form = form_told json })
    (option_map (λ s. s.now) names) (map (λ s. s.now) files.items) explain status before after
Ends shelf (Advance n limit file) explain status before after = EndsAtFirst shelf (Advance n limit file) explain status before after
Ends shelf (Draw code rule) explain status before after = EndsAtFirst shelf (Draw code rule) explain status before after
Ends shelf (Merge reports) explain status before after = EndsForm shelf form.Merged reports explain status before after
Ends shelf (Table subject format None reports) explain status before after =
    EndsForm shelf (form.Table (subject_of subject) (format_of format) None) reports explain status before after
Ends shelf (Table subject format (Some names) reports) explain status before after =
    EndsBeside shelf (Names (subject_of subject) (format_of format)) names.now reports explain status before after
Ends shelf (Page page None reports) explain status before after =
    (options : PageOptions) × (options_of options ≡ options_asked page)
    × EndsForm shelf (form.Page options None) reports explain status before after
Ends shelf (Page page (Some names) reports) explain status before after =
    (options : PageOptions) × (options_of options ≡ options_asked page)
    × EndsBeside shelf (NamesOnPage options) names.now reports explain status before after
Ends shelf (Same json reports) explain status before after = EndsForm shelf (form.Same json) reports explain status before after
Ends shelf (Starts json from) explain status before after = EndsStarts shelf (source_of from) json explain status before after
Ends shelf (Verify claims reports) explain status before after = EndsBeside shelf Claims claims.now reports explain status before after

-- # Where nothing can be done

-- the text was written, nothing was read, and nothing was reported
pub record Shows (text : List ℕ) (before after : Streams) : Type 0 where
  pub written : Appends before.output.written after.output.written text
  pub unread : after.input.unread ≡ before.input.unread
  pub sound : HasSoundStreams after
  pub quiet : after.errors ≡ before.errors

-- only a prefix of the text was written, as much as the writer took, and this was reported
pub record ShowsInPart (text : List ℕ) (before after : Streams) : Type 0 where
  pub written : AppendsFront before.output.written after.output.written text
  pub unread : after.input.unread ≡ before.input.unread
  pub fails : WriteFails after
  pub line : PutsBytes (error_line command.Write) before.errors after.errors

-- Help goes to standard output, and a refusal to standard error, each by its own text.
abbrev pub Answers : WordsFault → ℕ → Streams → Streams → Type 0
Answers (Help text) status before after =
    ((status ≡ 0) × Shows (string_bytes text) before after)
    ⊎ ((status ≡ 4) × ShowsInPart (string_bytes text) before after)
Answers (Refused text) status before after =
    (status ≡ 2) × IsUntouched before after × PutsBytes (string_bytes text) before.errors after.errors
Answers Memory status before after =
    (status ≡ 3) × IsUntouched before after × PutsBytes (error_line command.Memory) before.errors after.errors

-- # The words

-- What words come to. They ask for this, and it ended like this: faults are explained where that is asked for, and at a terminal.
-- Or they ask for nothing that can be done: for help, or they are refused, or memory was refused while they were read.
abbrev pub Outcome : Tellings → List (List ℕ) → Bool → ℕ → Streams → Streams → Type 0
Outcome shelf words at_terminal status before after =
    ((asked : Wanted) × AsksFor words asked × Ends shelf asked.request (asked.explain || at_terminal) status before after)
    ⊎ ((fault : WordsFault) × RefusesWords words fault × Answers fault status before after)

-- The system gives no arguments, for an error of this kind. Nothing is read or written, and its line is reported.
pub record StopsUnread (kind : ErrorKind) (status : ℕ) (before after : Streams) : Type 0 where
  pub error : CommandError
  pub is : IsArgumentsError kind error
  pub status_is : status ≡ status_of error
  pub untouched : IsUntouched before after
  pub line : PutsBytes (error_line error) before.errors after.errors
