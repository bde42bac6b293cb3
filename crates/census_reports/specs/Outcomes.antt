-- What is read and written of reports, and what each error says.
use Rattle.std.specs.Prelude.{◌≡◌, ◌⊎◌, ℕ, false, Option, List}
use Rattle.census_folders.specs.Told.{Told}
use Rattle.census_folders.specs.Hearing.{words_or_input}
use Rattle.watched.specs.Streams.{Reader, Sink, Streams}
use Rattle.census_reports.specs.Looking.{FailsRead, SaysRead, WritesRead}
use Rattle.census_reports.specs.Texts.{FitTogether, ReadsEach, StopsReadingTexts}
use Rattle.census_reports.specs.declared.error.ReportsError.{ReportsError}
use Rattle.census_reports.specs.declared.error.ReportsError.TheVariants.{Unread, Memory}
use Rattle.census_reports.specs.declared.form.Form.{Form}
use Rattle.census_reports.specs.declared.reading.Reading.{Reading}
use Rattle.census_reports.specs.declared.reading.Written.{Written}

-- the words have these texts (without a word standard input has one), all together are within the limit, and standard input has
-- not failed
pub record ReadsTexts (limit : Option ℕ) (held : List ℕ → Told) (words texts : List (List ℕ)) (before after : Reader) : Type 0 where
  pub read : ReadsEach held (words_or_input words) texts before after
  pub fits : FitTogether limit texts
  pub sound : after.failed ≡ false

-- nothing was written
abbrev pub WritesNothing : Streams → Streams → Type 0
WritesNothing before after = after.output ≡ before.output

-- the texts of the words were read, and this holds for them
abbrev pub OfTexts : Reading → (List ℕ → Told) → List (List ℕ) → Streams → Streams → (List (List ℕ) → Type 0) → Type 0
OfTexts reading held words before after holds = (texts : List (List ℕ)) × ReadsTexts reading.limit held words texts before.input after.input × holds texts

-- what is made of the reports was written, and whether what was looked for was found, and where texts were cut
abbrev pub WritesReports : Form → Reading → Written → (List ℕ → Told) → List (List ℕ) → Streams → Streams → Type 0
WritesReports form reading result held words before after =
    OfTexts reading held words before after (λ texts. WritesRead form reading.cut result texts before.output after.output)

-- what is said on standard error before the reports are compared
abbrev pub SaysOfReports : Form → Reading → (List ℕ → Told) → List (List ℕ) → Streams → Streams → Sink → Sink → Type 0
SaysOfReports form reading held words before after old new = OfTexts reading held words before after (λ texts. SaysRead form reading.cut texts old new)

-- the texts of the words were not all read, for this error
abbrev pub StopsReading : ReportsError → Reading → (List ℕ → Told) → List (List ℕ) → Streams → Streams → Type 0
StopsReading error reading held words before after = StopsReadingTexts error reading.limit held (words_or_input words) before.input after.input

-- Why not all was written. Where the writer didn't fail, nothing was, or out of memory not all of what is written piece by piece.
abbrev pub ReportsFail : ReportsError → Form → Reading → (List ℕ → Told) → List (List ℕ) → Streams → Streams → Type 0
ReportsFail (Unread text fault) form reading held words before after =
    StopsReading (Unread text fault) reading held words before after × WritesNothing before after
ReportsFail Memory form reading held words before after =
    (after.input.failed ≡ false)
    × (WritesNothing before after ⊎ OfTexts reading held words before after (λ texts. FailsRead Memory reading.cut form texts before.output after.output))
ReportsFail error form reading held words before after =
    OfTexts reading held words before after (λ texts. FailsRead error reading.cut form texts before.output after.output)
