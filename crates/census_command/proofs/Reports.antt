-- Why no whole report was written, from what the run answers.
use Rattle.std.proofs.Common.{◌≡◌, ◌↔◌, ℕ, List, [], Option, Result, Ok, Err, Bool, true, false, inl, inr, refl}
use Rattle.std.proofs.lemmas.List.{append-nil}
use Rattle.watched.specs.Streams.{Streams}
use Rattle.census_bundle.specs.declared.bundle.Folder.{Folder}
use Rattle.census_crew.specs.Bytes.{ReadsBundle, ReadsFolders}
use Rattle.census_crew.specs.Writing.{WritesPrefix, WritesReport}
use Rattle.census_faults.specs.declared.run_fault.BytesFault.{BytesFault}
use Rattle.census_faults.specs.declared.run_fault.BytesFault.TheVariants.{Read, TooLong, Bundle, Memory, Write}
use Rattle.census_crew.specs.Faults.{FitsFault}
use Rattle.census_crew.specs.declared.tally.Tally.{Tally}
use Rattle.census_faults.specs.declared.run_fault.RunFault.{RunFault}
use Rattle.census_faults.specs.declared.run_fault.RunFault.TheVariants as runs
use Rattle.census_folders.specs.Sources.{Asked}
use Rattle.census_folders.specs.declared.fault.SourceFault.{SourceFault}
use Rattle.census_folders.specs.declared.fault.SourceFault.TheVariants as source
use Rattle.census_folders.specs.declared.loss.Cause.{Cause}
use Rattle.census_folders.specs.declared.loss.Cause.TheVariants as cause
use Rattle.life_answer.specs.declared.question.Question.{Question}
use Rattle.census_errors.specs.Errors.{run_error_of_bytes, run_error_of_cause, run_error_of_run, run_error_of_source}
use Rattle.census_command.specs.Runs.{FailsInFolders, FoldersFail, InputFails, ReportsFoldersInPart}
use Rattle.census_errors.specs.declared.run_error.RunError.{RunError}
use Rattle.census_errors.specs.declared.run_error.RunError.TheVariants as run
use Rattle.census_command.specs.Keeps.{IsCut}
use Rattle.census_folders.specs.Tellings.{Tellings}
use Rattle.census_command.specs.Streams.{IsUntouched}

is_down : (failed : Bool) → (failed ≡ true → ⊥) → failed ≡ false
is_down true raised = absurd (raised refl)
is_down false raised = refl

-- the flag is down where a bundle was read
pub read_whole : (bundle : List Folder) (failed : Bool) → (◌≡◌ {A = Result (List Folder) BytesFault} (Ok bundle) (Err Read)) ↔ (failed ≡ true) → failed ≡ false
read_whole bundle failed reads = is_down failed (λ e. let h = reads.1 e in cc)

module _ (question : Question) (before after : Streams) where
  -- why there is no bundle
  pub input_stops : (fault : BytesFault) → (◌≡◌ {A = Result (List Folder) BytesFault} (Err fault) (Err Read)) ↔ (after.input.failed ≡ true)
      → ReadsBundle before.input.unread after.input.unread (Err fault) → after.output.written ≡ before.output.written → after.output.failed ≡ false
      → InputFails (run_error_of_bytes fault) question before after
  input_stops Read reads read same down = record { written = same; read = reads.0 refl; write = down }
  input_stops TooLong reads read same down =
      (read, record { written = same; sound = record { read = is_down after.input.failed (λ e. let h = reads.1 e in cc); write = down } })
  input_stops (Bundle fault) reads read same down =
      (read, record { written = same; sound = record { read = is_down after.input.failed (λ e. let h = reads.1 e in cc); write = down } })
  input_stops Memory reads read same down = (inl same, record { read = is_down after.input.failed (λ e. let h = reads.1 e in cc); write = down })
  input_stops Write reads read same down = absurd read

  -- why there is no whole report of it
  pub input_fails : (bundle : List Folder) (fault : RunFault) → FitsFault {A = Tally} (Err fault) after.output.failed
      → ReadsFolders before.input.unread after.input.unread bundle → WritesPrefix before.output.written after.output.written bundle question → after.input.failed ≡ false
      → InputFails (run_error_of_run fault) question before after
  input_fails bundle (runs.Memory ticket) fits read front down = (inr (record { bundle = bundle; read = read; front = front }), record { read = down; write = fits })
  input_fails bundle runs.Write fits read front down = (record { bundle = bundle; read = read; front = front }, record { read = down; write = fits })

at_cause : {A : Type 0} (c : Cause) → run.Write ≡ run_error_of_cause c → A
at_cause cause.BadName same = absurd cc
at_cause (cause.Unread why) same = absurd cc
at_cause cause.TooLong same = absurd cc

-- no fault of reading folders is a failed write
no_write : {A : Type 0} (fault : SourceFault) → run.Write ≡ run_error_of_source fault → A
no_write (source.Lost loss) is = at_cause loss.cause is
no_write (source.Unnamed c) is = at_cause c is
no_write source.TooMany is = absurd cc
no_write source.Memory is = absurd cc

module _ (shelf : Tellings) (asked : Asked) (question : Question) where
  pub folders_stop : (error : RunError) (before after : Streams) → FailsInFolders shelf asked error → IsUntouched before after → FoldersFail error shelf asked question before after
  folders_stop (run.Bundle fault) before after fails untouched = (fails, untouched)
  folders_stop (run.Folder fault) before after fails untouched = (fails, untouched)
  folders_stop run.TooLong before after fails untouched = (fails, untouched)
  folders_stop (run.Memory ticket) before after fails untouched = inl (fails, untouched)
  folders_stop run.Read before after fails untouched = (fails, untouched)
  folders_stop run.Write before after fails untouched = no_write fails.fault fails.is

  pub folders_fail : (before after : Streams) (fault : RunFault) → ReportsFoldersInPart shelf asked question before after → after.input.failed ≡ false
      → FitsFault {A = Tally} (Err fault) after.output.failed → FoldersFail (run_error_of_run fault) shelf asked question before after
  folders_fail before after (runs.Memory ticket) part down fits = inr (part, record { read = down; write = fits })
  folders_fail before after runs.Write part down fits = (part, record { read = down; write = fits })

-- out of memory, or standard output has failed
pub is_cut : (fault : RunFault) (after : Streams) → after.input.failed ≡ false → FitsFault {A = Tally} (Err fault) after.output.failed → IsCut (run_error_of_run fault) after
is_cut (runs.Memory ticket) after down fits = record { read = down; write = fits }
is_cut runs.Write after down fits = record { read = down; write = fits }

-- a whole report is a prefix of one
pub whole_front : (old new : Option (List ℕ)) (bundle : List Folder) (question : Question) → WritesReport old new bundle question → WritesPrefix old new bundle question
whole_front old new bundle question h = record {
  text = h.text;
  front = record { rest = []; report = rw (append-nil h.text) h.report };
  written = h.written;
}
