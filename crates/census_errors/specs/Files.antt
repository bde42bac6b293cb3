-- The files of words.
use Rattle.std.specs.Prelude.{ℕ, ◌-◌, List, [], ◌++◌, codes, Option, None, Some, slice_get, if◌then◌else◌}
use Rattle.census_faults.specs.Printed.{printable_text}
use Rattle.census_folders.specs.Hearing.{is_input}
use Rattle.census_folders.specs.declared.unread.ShelfFault.TheVariants as shelf
use Rattle.census_reports.specs.declared.error.ReportsError.{ReportsError}
use Rattle.census_reports.specs.declared.error.ReportsError.TheVariants.{Claims, Names, Fault, Unread}

-- the file that a word names: neither `-` nor a missing word names one
abbrev pub file_of : Option (List ℕ) → Option (List ℕ)
file_of None = None
file_of (Some word) = if is_input word then None else Some word

-- that of the word of this number, from 1
abbrev pub file_at : List (List ℕ) → ℕ → Option (List ℕ)
file_at words number = file_of (slice_get words (number - 1))

-- the file that an error is about: that of the word of a text that is read before the reports, or that of a report
abbrev pub file_in : Option (List ℕ) → List (List ℕ) → ReportsError → Option (List ℕ)
file_in beside words (Claims line is_named) = file_of beside
file_in beside words (Names line) = file_of beside
file_in beside words (Fault text line kind) = file_at words text
file_in beside words (Unread text shelf.Memory) = None
file_in beside words (Unread text shelf.TooLong) = file_at words text
file_in beside words (Unread text (shelf.Unread why)) = file_at words text
file_in beside words _ = None

-- the name of a file as it is shown, and `: `; nothing where there is none
abbrev pub file_named : Option (List ℕ) → List ℕ
file_named None = []
file_named (Some file) = printable_text file ++ codes ": "
