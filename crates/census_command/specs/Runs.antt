-- What `run` reads and writes, and what each of its errors says.
use Rattle.std.specs.Prelude.{◌≡◌, ◌⊎◌, List}
use Rattle.watched.specs.Streams.{Streams}
use Rattle.census_bundle.specs.declared.bundle.Folder.{Folder}
use Rattle.census_crew.specs.Bytes.{ReadsFault, ReadsFolders}
use Rattle.census_crew.specs.Writing.{WritesPrefix, WritesReport}
use Rattle.census_folders.specs.Sources.{Asked, Reads, Stops}
use Rattle.census_folders.specs.declared.fault.SourceFault.{SourceFault}
use Rattle.census_folders.specs.declared.loss.OnLoss.TheVariants.{Stop}
use Rattle.census_folders.specs.declared.reading.Kept.{Kept}
use Rattle.census_command.specs.Advances.{ReadsTooMuch}
use Rattle.life_answer.specs.declared.question.Question.{Question}
use Rattle.census_errors.specs.Errors.{run_error_of_source}
use Rattle.census_folders.specs.Tellings.{Tellings}
use Rattle.census_errors.specs.Sources.{Source, Input, Folders}
use Rattle.census_command.specs.Streams.{HasSoundStreams, IsUntouched, ReadFails, WriteFails, WritesNothing}
use Rattle.census_errors.specs.declared.run_error.RunError.{RunError}
use Rattle.census_errors.specs.declared.run_error.RunError.TheVariants.{Bundle, Folder as FolderFault, TooLong, Memory, Read, Write}

-- # Standard input

-- standard input, read to its end, is the text of a bundle, and a report of that bundle was written
pub record ReportsInput (question : Question) (before after : Streams) : Type 0 where
  pub bundle : List Folder
  pub read : ReadsFolders before.input.unread after.input.unread bundle
  pub report : WritesReport before.output.written after.output.written bundle question

-- as `ReportsInput`, but only a prefix was written: as much as the writer took
pub record ReportsInputInPart (question : Question) (before after : Streams) : Type 0 where
  pub bundle : List Folder
  pub read : ReadsFolders before.input.unread after.input.unread bundle
  pub front : WritesPrefix before.output.written after.output.written bundle question

-- why no whole report of standard input was written
abbrev pub InputFails : RunError → Question → Streams → Streams → Type 0
InputFails (Bundle fault) question before after = ReadsFault before.input.unread after.input.unread fault × WritesNothing before after
InputFails (FolderFault fault) question before after = ⊥
InputFails TooLong question before after = ReadsTooMuch before after × WritesNothing before after
InputFails (Memory ticket) question before after =
    ((after.output.written ≡ before.output.written) ⊎ ReportsInputInPart question before after) × HasSoundStreams after
InputFails Read question before after = ReadFails before after
InputFails Write question before after = ReportsInputInPart question before after × WriteFails after

-- # Folders

-- The folders were read, according to the shelf, where reading ends at the first loss; so nothing was lost. A report of them was
-- written. Nothing was read from standard input.
pub record ReportsFolders (shelf : Tellings) (asked : Asked) (question : Question) (before after : Streams) : Type 0 where
  pub stops : asked.on_loss ≡ Stop
  pub kept : Kept
  pub read : Reads shelf asked kept
  pub report : WritesReport before.output.written after.output.written kept.bundle question
  pub unread : after.input.unread ≡ before.input.unread

-- as `ReportsFolders`, but only a prefix was written: as much as the writer took
pub record ReportsFoldersInPart (shelf : Tellings) (asked : Asked) (question : Question) (before after : Streams) : Type 0 where
  pub stops : asked.on_loss ≡ Stop
  pub kept : Kept
  pub read : Reads shelf asked kept
  pub front : WritesPrefix before.output.written after.output.written kept.bundle question
  pub unread : after.input.unread ≡ before.input.unread

-- the folders were not all read, for this error
pub record FailsInFolders (shelf : Tellings) (asked : Asked) (error : RunError) : Type 0 where
  pub stops : asked.on_loss ≡ Stop
  pub fault : SourceFault
  pub is : error ≡ run_error_of_source fault
  pub why : Stops shelf asked fault

-- why no whole report of the folders was written
abbrev pub FoldersFail : RunError → Tellings → Asked → Question → Streams → Streams → Type 0
FoldersFail (Memory ticket) shelf asked question before after =
    (FailsInFolders shelf asked (Memory ticket) × IsUntouched before after) ⊎ (ReportsFoldersInPart shelf asked question before after × HasSoundStreams after)
FoldersFail Write shelf asked question before after = ReportsFoldersInPart shelf asked question before after × WriteFails after
FoldersFail error shelf asked question before after = FailsInFolders shelf asked error × IsUntouched before after

-- # Each

-- a report of what comes from there was written
abbrev pub Runs : Tellings → Source → Question → Streams → Streams → Type 0
Runs shelf Input question before after = ReportsInput question before after
Runs shelf (Folders asked) question before after = ReportsFolders shelf asked question before after

-- as `Runs`, but only a prefix was written: as much as the writer took
abbrev pub RunsInPart : Tellings → Source → Question → Streams → Streams → Type 0
RunsInPart shelf Input question before after = ReportsInputInPart question before after
RunsInPart shelf (Folders asked) question before after = ReportsFoldersInPart shelf asked question before after

-- why no whole report was written
abbrev pub RunFails : RunError → Tellings → Source → Question → Streams → Streams → Type 0
RunFails error shelf Input question before after = InputFails error question before after
RunFails error shelf (Folders asked) question before after = FoldersFail error shelf asked question before after
