-- What is reported of an error.
use Rattle.std.specs.Prelude.{◌≡◌, ℕ, Bool, true, List, ◌++◌, codes, decimal, Option}
use Rattle.std.specs.List.{list_all}
use Rattle.watched.specs.Streams.{PutsBytes, PutsMoreBytes, Sink}
use Rattle.census_bundle.specs.Names.{is_name_byte}
use Rattle.census_errors.specs.Files.{file_named}
use Rattle.census_errors.specs.Messages.{error_line}
use Rattle.census_errors.specs.declared.error.CommandError.{CommandError}
use Rattle.census_folders.specs.declared.unread.ShelfFault.TheVariants as shelf
use Rattle.census_reports.specs.declared.error.ReportsError.{ReportsError}
use Rattle.census_reports.specs.declared.error.ReportsError.TheVariants as reports
use Rattle.census_faults.specs.Explanations.{IsExplanation}

-- the line of an error was reported, and then what is said of it where faults are explained
pub record TellsOf (error : CommandError) (explain : Bool) (before after : Sink) : Type 0 where
  pub lines : List ℕ
  pub explained : IsExplanation explain lines
  pub told : PutsBytes (error_line error ++ lines) before after

-- these words say what is wrong; where a file can't be read they are those of the system, without control characters
abbrev pub AreWordsOf : ReportsError → List ℕ → Type 0
AreWordsOf (reports.Claims line is_named) words = words ≡ codes "claim fault at line " ++ decimal line
AreWordsOf (reports.Names line) words = words ≡ codes "names fault at line " ++ decimal line
AreWordsOf (reports.Fault text line kind) words = words ≡ codes "report fault at line " ++ decimal line
AreWordsOf (reports.TooMany report) words = words ≡ codes "too many collections at report " ++ decimal report
AreWordsOf (reports.Unread text shelf.TooLong) words = words ≡ codes "input too long"
AreWordsOf (reports.Unread text shelf.Memory) words = words ≡ codes "out of memory"
AreWordsOf (reports.Unread text (shelf.Unread why)) words = list_all is_name_byte words ≡ true
AreWordsOf reports.Memory words = words ≡ codes "out of memory"
AreWordsOf reports.Write words = words ≡ codes "write failed"

-- a line was reported that names this file and says what is wrong, and then what explains it, where faults are explained; once
-- standard error has failed they are lost
pub record TellsFault (file : Option (List ℕ)) (error : ReportsError) (explain : Bool) (before after : Sink) : Type 0 where
  pub words : List ℕ
  pub wrong : AreWordsOf error words
  pub lines : List ℕ
  pub explained : IsExplanation explain lines
  pub told : PutsMoreBytes (codes "census: " ++ file_named file ++ words ++ codes "\n" ++ lines) before after

-- # What the parts that write it return

-- words without control characters were reported
pub record TellsWords (before after : Sink) : Type 0 where
  pub words : List ℕ
  pub shown : list_all is_name_byte words ≡ true
  pub told : PutsMoreBytes words before after

-- words that say what is wrong were reported
pub record TellsWrong (error : ReportsError) (before after : Sink) : Type 0 where
  pub words : List ℕ
  pub wrong : AreWordsOf error words
  pub told : PutsMoreBytes words before after

-- what is said where faults are explained was reported
pub record Explains (explain : Bool) (before after : Sink) : Type 0 where
  pub lines : List ℕ
  pub explained : IsExplanation explain lines
  pub told : PutsMoreBytes lines before after
