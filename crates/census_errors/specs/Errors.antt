-- The error for the fault of a part.
use Rattle.std.specs.Prelude.{◌≡◌, ◌≢◌, ◌⊎◌, None}
use Rattle.std.specs.declared.io.ErrorKind.{ErrorKind}
use Rattle.std.specs.declared.io.ErrorKind.TheVariants.{OutOfMemory}
use Rattle.life_cells.specs.declared.reader.CodeFault.{CodeFault}
use Rattle.life_cells.specs.declared.reader.CodeFault.TheVariants as codes
use Rattle.watched.specs.declared.reading.ReadFault.{ReadFault}
use Rattle.watched.specs.declared.reading.ReadFault.TheVariants as reads
use Rattle.census_faults.specs.declared.run_fault.BytesFault.{BytesFault}
use Rattle.census_faults.specs.declared.run_fault.BytesFault.TheVariants as bytes
use Rattle.census_faults.specs.declared.run_fault.RunFault.{RunFault}
use Rattle.census_faults.specs.declared.run_fault.RunFault.TheVariants as runs
use Rattle.census_bundle.specs.declared.bundle.AddFault.TheVariants as add
use Rattle.census_folders.specs.Told.{silent}
use Rattle.census_folders.specs.declared.fault.SourceFault.{SourceFault}
use Rattle.census_folders.specs.declared.fault.SourceFault.TheVariants as source
use Rattle.census_folders.specs.declared.loss.Cause.{Cause}
use Rattle.census_folders.specs.declared.loss.Cause.TheVariants as cause
use Rattle.census_folders.specs.declared.unread.ShelfFault.{ShelfFault}
use Rattle.census_folders.specs.declared.unread.ShelfFault.TheVariants as shelf
use Rattle.census_errors.specs.declared.advance_error.AdvanceError.{AdvanceError}
use Rattle.census_errors.specs.declared.advance_error.AdvanceError.TheVariants as advance
use Rattle.census_errors.specs.declared.draw_error.DrawError.{DrawError}
use Rattle.census_errors.specs.declared.draw_error.DrawError.TheVariants as draw
use Rattle.census_errors.specs.declared.run_error.RunError.{RunError}
use Rattle.census_errors.specs.declared.run_error.RunError.TheVariants as run
use Rattle.census_errors.specs.declared.error.CommandError.{CommandError}
use Rattle.census_errors.specs.declared.error.CommandError.TheVariants.{Arguments, Memory}

-- # Of `advance`

abbrev pub advance_error_of_read : ReadFault → AdvanceError
advance_error_of_read reads.Read = advance.Read silent
advance_error_of_read reads.TooLong = advance.TooLong
advance_error_of_read reads.Memory = advance.Memory

abbrev pub advance_error_of_shelf : ShelfFault → AdvanceError
advance_error_of_shelf (shelf.Unread why) = advance.Read why
advance_error_of_shelf shelf.TooLong = advance.TooLong
advance_error_of_shelf shelf.Memory = advance.Memory

-- # Of `draw`

abbrev pub draw_error_of_code : CodeFault → DrawError
draw_error_of_code codes.Memory = draw.Memory
draw_error_of_code fault = draw.Code fault

-- # Of `run`

abbrev pub run_error_of_bytes : BytesFault → RunError
run_error_of_bytes bytes.Read = run.Read
run_error_of_bytes bytes.TooLong = run.TooLong
run_error_of_bytes (bytes.Bundle fault) = run.Bundle fault
run_error_of_bytes bytes.Memory = run.Memory None
run_error_of_bytes bytes.Write = run.Write

abbrev pub run_error_of_cause : Cause → RunError
run_error_of_cause cause.BadName = run.Folder add.BadName
run_error_of_cause (cause.Unread why) = run.Read
run_error_of_cause cause.TooLong = run.TooLong

abbrev pub run_error_of_source : SourceFault → RunError
run_error_of_source (source.Lost loss) = run_error_of_cause loss.cause
run_error_of_source (source.Unnamed cause) = run_error_of_cause cause
run_error_of_source source.TooMany = run.Folder add.TooMany
run_error_of_source source.Memory = run.Memory None

abbrev pub run_error_of_run : RunFault → RunError
run_error_of_run (runs.Memory ticket) = run.Memory ticket
run_error_of_run runs.Write = run.Write

-- # Of reading the arguments

-- memory was refused, or an argument is not text
abbrev pub IsArgumentsError : ErrorKind → CommandError → Type 0
IsArgumentsError kind error = ((kind ≡ OutOfMemory) × (error ≡ Memory)) ⊎ ((kind ≢ OutOfMemory) × (error ≡ Arguments))
