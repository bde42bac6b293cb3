-- Patterns of collections that are the same at the start: what is written and reported, and the exit status.
use Rattle.std.specs.Prelude.{◌≡◌, ◌⊎◌, ℕ, Bool, List, Err}
use Rattle.watched.specs.Streams.{Reader, Streams}
use Rattle.census_bundle.specs.declared.bundle.Folder.{Folder}
use Rattle.census_crew.specs.Bytes.{ReadsBundle, ReadsFolders}
use Rattle.census_faults.specs.declared.run_fault.BytesFault.{BytesFault}
use Rattle.census_faults.specs.declared.run_fault.RunFault.{RunFault}
use Rattle.census_folders.specs.Sources.{Reads, Stops}
use Rattle.census_folders.specs.Tellings.{Tellings}
use Rattle.census_folders.specs.declared.fault.SourceFault.{SourceFault}
use Rattle.census_folders.specs.declared.reading.Kept.{Kept}
use Rattle.census_compare.specs.Starts.{WritesStarts, has_failed}
use Rattle.census_errors.specs.Errors.{run_error_of_bytes, run_error_of_run, run_error_of_source}
use Rattle.census_errors.specs.Explained.{TellsOf}
use Rattle.census_errors.specs.Messages.{run_status}
use Rattle.census_errors.specs.Sources.{Source, Input, Folders}
use Rattle.census_errors.specs.declared.error.CommandError.TheVariants as command
use Rattle.census_errors.specs.declared.run_error.RunError.{RunError}
use Rattle.census_command.specs.Remakes.{found_status}

-- these collections were read from there
abbrev pub IsReadFrom : Tellings → Source → Reader → Reader → List Folder → Type 0
IsReadFrom shelf Input before after bundle = ReadsFolders before.unread after.unread bundle
IsReadFrom shelf (Folders asked) before after bundle = (kept : Kept) × Reads shelf asked kept × (bundle ≡ kept.bundle) × (after ≡ before)

-- none were, for this error
abbrev pub IsUnread : Tellings → Source → Reader → Reader → RunError → Type 0
IsUnread shelf Input before after error = (fault : BytesFault) × (error ≡ run_error_of_bytes fault) × ReadsBundle before.unread after.unread (Err fault)
IsUnread shelf (Folders asked) before after error =
    (fault : SourceFault) × (error ≡ run_error_of_source fault) × Stops shelf asked fault × (after ≡ before)

-- their patterns that are the same at the start were written, and something was found or not
abbrev pub FindsStarts : Tellings → Source → Bool → Bool → Streams → Streams → Type 0
FindsStarts shelf source json found before after =
    (bundle : List Folder) × IsReadFrom shelf source before.input after.input bundle
    × WritesStarts json bundle found before.output after.output before.errors after.errors

-- why they were not: nothing was written where none were read; otherwise memory ran out, or standard output has failed
abbrev pub MissesStarts : Tellings → Source → RunError → Streams → Streams → Type 0
MissesStarts shelf source error before after =
    (IsUnread shelf source before.input after.input error × (after.output ≡ before.output))
    ⊎ ((bundle : List Folder) × IsReadFrom shelf source before.input after.input bundle
    × (fault : RunFault) × (error ≡ run_error_of_run fault) × (after.output.failed ≡ has_failed (Err fault)))

-- an error ended it, and was reported
pub record StopsStarts (shelf : Tellings) (source : Source) (explain : Bool) (status : ℕ) (before after : Streams) : Type 0 where
  pub error : RunError
  pub status_is : status ≡ run_status error
  pub why : MissesStarts shelf source error before after
  pub told : TellsOf (command.Run error) explain before.errors after.errors

-- how it ends
abbrev pub EndsStarts : Tellings → Source → Bool → Bool → ℕ → Streams → Streams → Type 0
EndsStarts shelf source json explain status before after =
    ((found : Bool) × (status ≡ found_status found) × FindsStarts shelf source json found before after)
    ⊎ StopsStarts shelf source explain status before after
