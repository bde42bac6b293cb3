-- The exit status of each error.
use Rattle.std.specs.Prelude.{ℕ}
use Rattle.census_folders.specs.declared.unread.ShelfFault.{ShelfFault}
use Rattle.census_folders.specs.declared.unread.ShelfFault.TheVariants as shelf
use Rattle.census_reports.specs.declared.error.ReportsError.{ReportsError}
use Rattle.census_reports.specs.declared.error.ReportsError.TheVariants.{Unread, Memory, Write}

-- where a text is not read
abbrev pub unread_status : ShelfFault → ℕ
unread_status shelf.TooLong = 1
unread_status shelf.Memory = 3
unread_status (shelf.Unread why) = 4

abbrev pub status_of : ReportsError → ℕ
status_of (Unread text fault) = unread_status fault
status_of Memory = 3
status_of Write = 4
status_of _ = 1
