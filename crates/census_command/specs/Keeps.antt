-- A census that continues past what can't be read: what was lost, and what it says.
use Rattle.std.specs.Prelude.{◌≡◌, ◌⊎◌, ℕ, Bool, List, [], ◌∷◌, ◌++◌, All, Option, None, Some, codes}
use Rattle.std.specs.List.{flat_map}
use Rattle.watched.specs.Streams.{PutsBytes, Streams}
use Rattle.census_bundle.specs.Tickets.{IsTicketOf, element_at}
use Rattle.census_bundle.specs.declared.bundle.Entry.{Entry}
use Rattle.census_bundle.specs.declared.bundle.Folder.{Folder}
use Rattle.census_bundle.specs.declared.ticket.Ticket.{Ticket}
use Rattle.census_book.specs.Losses.{lose_all}
use Rattle.life_answer.specs.declared.question.Question.{Question}
use Rattle.census_crew.specs.Writing.{WritesPrefix, WritesReport}
use Rattle.census_faults.specs.Explanations.{IsExplanation}
use Rattle.census_faults.specs.Printed.{printable_text}
use Rattle.census_folders.specs.Sources.{Asked, Reads, Stops}
use Rattle.census_folders.specs.declared.fault.SourceFault.{SourceFault}
use Rattle.census_folders.specs.declared.loss.Loss.{Loss}
use Rattle.census_folders.specs.declared.reading.Kept.{Kept}
use Rattle.census_errors.specs.Errors.{run_error_of_source}
use Rattle.census_errors.specs.Explained.{TellsOf}
use Rattle.census_errors.specs.Messages.{error_line, run_status}
use Rattle.census_folders.specs.Tellings.{Tellings}
use Rattle.census_command.specs.Streams.{HasSoundStreams, IsUntouched, WriteFails}
use Rattle.census_errors.specs.declared.error.CommandError.TheVariants as command
use Rattle.census_errors.specs.declared.run_error.RunError.{RunError}
use Rattle.census_errors.specs.declared.run_error.RunError.TheVariants.{Memory, Write}

-- # What was lost

-- the line for it on standard error
abbrev pub lost_line : Loss → List ℕ
lost_line loss = codes "census: lost " ++ printable_text loss.path ++ codes "\n"

abbrev pub lost_lines : List Loss → List ℕ
lost_lines lost = flat_map lost_line lost

abbrev pub name_in : Option Entry → List ℕ
name_in None = []
name_in (Some e) = e.name

abbrev pub pattern_path_in : Option Folder → ℕ → List ℕ
pattern_path_in None i = []
pattern_path_in (Some f) i = f.name ++ codes "/" ++ name_in (element_at f.entries i)

-- the name of a pattern's collection, a slash, and its own name
abbrev pub pattern_path : List Folder → Ticket → List ℕ
pattern_path b t = pattern_path_in (element_at b t.folder) t.number

-- the line for a pattern that was lost since memory was refused for it
abbrev pub refused_line : List Folder → Ticket → List ℕ
refused_line b t = codes "census: lost " ++ printable_text (pattern_path b t) ++ codes ": out of memory\n"

abbrev pub refused_lines : List Folder → List Ticket → List ℕ
refused_lines b refused = flat_map (refused_line b) refused

-- the exit status of a whole report: 3 where memory was refused for a pattern, otherwise 4 where something could not be read
abbrev pub kept_status : List Loss → List Ticket → ℕ
kept_status lost (t ∷ refused) = 3
kept_status [] [] = 0
kept_status (loss ∷ lost) [] = 4

-- # What stops it

-- why nothing was read: out of memory, or there are too many folders, or too many files in one
abbrev pub StopsKeeping : Tellings → Asked → RunError → Type 0
StopsKeeping shelf asked error = (error ≡ Memory None) ⊎ ((fault : SourceFault) × (error ≡ run_error_of_source fault) × Stops shelf asked fault)

-- # What is written and reported

-- Of a census of folders that continues past what can't be read: a report of what could be read was written, in which the
-- patterns for which memory was refused count as lost too. A line was reported for each loss, and then what is said beside the
-- report, where faults are explained. Nothing was read from standard input.
pub record KeepsWhole (shelf : Tellings) (asked : Asked) (question : Question) (explain : Bool) (status : ℕ)
    (before after : Streams) : Type 0 where
  pub kept : Kept
  pub read : Reads shelf asked kept
  pub refused : List Ticket
  pub of_bundle : All (IsTicketOf kept.bundle) refused
  pub report : WritesReport before.output.written after.output.written (lose_all refused kept.bundle) question
  pub unread : after.input.unread ≡ before.input.unread
  pub sound : HasSoundStreams after
  pub lines : List ℕ
  pub explained : IsExplanation explain lines
  pub told : PutsBytes (lost_lines kept.lost ++ (refused_lines kept.bundle refused ++ lines)) before.errors after.errors
  pub status_is : status ≡ kept_status kept.lost refused

-- out of memory, or standard output has failed
abbrev pub IsCut : RunError → Streams → Type 0
IsCut (Memory ticket) after = HasSoundStreams after
IsCut Write after = WriteFails after
IsCut error after = ⊥

-- A prefix of such a report was written. A line was reported for each loss, then the error, and what is said of it where faults are
-- explained.
pub record KeepsPart (shelf : Tellings) (asked : Asked) (question : Question) (explain : Bool) (status : ℕ)
    (before after : Streams) : Type 0 where
  pub kept : Kept
  pub read : Reads shelf asked kept
  pub refused : List Ticket
  pub part : WritesPrefix before.output.written after.output.written (lose_all refused kept.bundle) question
  pub unread : after.input.unread ≡ before.input.unread
  pub error : RunError
  pub cut : IsCut error after
  pub lines : List ℕ
  pub explained : IsExplanation explain lines
  pub told : PutsBytes (lost_lines kept.lost ++ error_line (command.Run error) ++ lines) before.errors after.errors
  pub status_is : status ≡ run_status error

-- Nothing was read or written, and the error was reported.
pub record KeepsNothing (shelf : Tellings) (asked : Asked) (question : Question) (explain : Bool) (status : ℕ)
    (before after : Streams) : Type 0 where
  pub error : RunError
  pub why : StopsKeeping shelf asked error
  pub untouched : IsUntouched before after
  pub told : TellsOf (command.Run error) explain before.errors after.errors
  pub status_is : status ≡ run_status error

abbrev pub Keeps : Tellings → Asked → Question → Bool → ℕ → Streams → Streams → Type 0
Keeps shelf asked question explain status before after =
    KeepsWhole shelf asked question explain status before after
    ⊎ (KeepsPart shelf asked question explain status before after
    ⊎ KeepsNothing shelf asked question explain status before after)
