-- What is made of reports that are read back, and what the exit status says of it.
use Rattle.std.specs.Prelude.{◌≡◌, ◌⊎◌, ℕ, Bool, false, if◌then◌else◌, List, [], ◌∷◌, Option, None, Some}
use Rattle.std.specs.Borrow.{Bor}
use Rattle.watched.specs.Streams.{PutsMoreBytes, Sink, Streams}
use Rattle.census_folders.specs.Told.{Told}
use Rattle.census_folders.specs.Hearing.{Hears}
use Rattle.census_folders.specs.declared.heard.Heard.TheVariants as heard
use Rattle.census_reports.specs.Outcomes.{ReportsFail, SaysOfReports, WritesReports}
use Rattle.census_reports.specs.Texts.{RefusesWord}
use Rattle.census_reports.specs.declared.error.ReportsError.{ReportsError}
use Rattle.census_reports.specs.declared.form.Form.{Form}
use Rattle.census_reports.specs.declared.form.Form.TheVariants as form
use Rattle.census_reports.specs.Lawful.Lawful.{MergesLawfully}
use Rattle.census_reports.specs.declared.reading.Reading.{Reading}
use Rattle.census_reports.specs.declared.reading.Written.{Written}
use Rattle.census_merge.specs.declared.mending.Cut.{Cut}
use Rattle.census_errors.specs.Cuts.{cut_line}
use Rattle.census_errors.specs.Explained.{TellsFault}
use Rattle.census_errors.specs.Files.{file_in}
use Rattle.census_folders.specs.declared.unread.ShelfFault.{ShelfFault}
use Rattle.census_reports.specs.Errors.{status_of, unread_status}
use Rattle.census_reports.specs.declared.error.ReportsError.TheVariants.{Unread}
use Rattle.census_command.specs.Forms.{form_beside}
use Rattle.census_command.specs.Streams.{untold}
use Rattle.census_command.specs.declared.forms.Beside.{Beside}

-- One report of lawful reports of bundles, none of which was cut, is a lawful report of the bundles, one after another.
abbrev pub KeepsLaw : Form → Reading → (List ℕ → Told) → List (List ℕ) → Streams → Streams → Type 0
KeepsLaw form.Merged reading held files before after =
    reading.cut ≡ false → MergesLawfully reading.limit held files before.input after.input before.output after.output
KeepsLaw _ reading held files before after = Unit {0}

-- a line was reported for each text that was cut, in their order; once standard error has failed the lines are lost
abbrev pub TellsCuts : List Cut → Sink → Sink → Type 0
TellsCuts [] old new = new ≡ old
TellsCuts (cut ∷ cuts) old new = (next : Sink) × PutsMoreBytes (cut_line cut) old next × TellsCuts cuts next new

-- all was written; what was looked for was found or not
abbrev pub found_status : Bool → ℕ
found_status found = if found then 5 else 0

-- What is made of the reports of these files was written. Before, it was said what is compared, and after, where texts were cut;
-- nothing else was reported.
pub record RemakesWhole (held : List ℕ → Told) (form : Form) (reading : Reading) (files : List (List ℕ)) (status : ℕ)
    (before after : Streams) : Type 0 where
  pub written : Written
  pub status_is : status ≡ found_status written.found
  pub done : WritesReports form reading written held files before (untold before after)
  pub lawful : KeepsLaw form reading held files before (untold before after)
  -- standard error, once that was said
  pub said : Sink
  pub says : SaysOfReports form reading held files before (untold before after) before.errors said
  pub told : TellsCuts written.cuts.items said after.errors

-- An error ended it, and was reported. Before, it may have been said what is compared.
pub record RemakesNot (held : List ℕ → Told) (form : Form) (beside : Option (List ℕ)) (reading : Reading) (files : List (List ℕ)) (explain : Bool)
    (status : ℕ) (before after : Streams) : Type 0 where
  pub error : ReportsError
  pub status_is : status ≡ status_of error
  pub fails : ReportsFail error form reading held files before (untold before after)
  pub said : Sink
  pub says : (said ≡ before.errors) ⊎ SaysOfReports form reading held files before (untold before after) before.errors said
  -- its line names its file
  pub told : TellsFault (file_in beside files error) error explain said after.errors

-- `beside` is the word of the text that the form has
abbrev pub Remakes : (List ℕ → Told) → Form → Option (List ℕ) → Reading → List (List ℕ) → Bool → ℕ → Streams → Streams → Type 0
Remakes held form beside reading files explain status before after =
    RemakesWhole held form reading files status before after
    ⊎ RemakesNot held form beside reading files explain status before after

-- # With a text that is read before the reports

-- The text was read, and then what is made of the reports with it was written, or an error ended it.
pub record RemakesBeside (held : List ℕ → Told) (beside : Beside) (word : List ℕ) (reading : Reading) (files : List (List ℕ))
    (explain : Bool) (status : ℕ) (before after : Streams) : Type 0 where
  pub text : Bor (List ℕ)
  -- the streams once the text was read
  pub reached : Streams
  pub read : Hears held word (heard.Text text.now) before.input reached.input
  pub unwritten : reached.output ≡ before.output
  pub quiet : reached.errors ≡ before.errors
  pub remakes : Remakes held (form_beside beside text) (Some word) reading files explain status reached after

-- The text was not read, for an error that was reported.
pub record MissesBeside (held : List ℕ → Told) (word : List ℕ) (explain : Bool) (status : ℕ)
    (before after : Streams) : Type 0 where
  pub fault : ShelfFault
  pub status_is : status ≡ unread_status fault
  pub why : RefusesWord fault held word before.input after.input
  pub unwritten : after.output ≡ before.output
  pub told : TellsFault (file_in None (word ∷ []) (Unread 1 fault)) (Unread 1 fault) explain before.errors after.errors

abbrev pub RemakesWith : (List ℕ → Told) → Beside → List ℕ → Reading → List (List ℕ) → Bool → ℕ → Streams → Streams → Type 0
RemakesWith held beside word reading files explain status before after =
    RemakesBeside held beside word reading files explain status before after
    ⊎ MissesBeside held word explain status before after
