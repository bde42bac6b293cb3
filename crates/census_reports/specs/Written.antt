-- What is made of reports, written.
use Rattle.std.specs.Prelude.{◌≡◌, ◌⊎◌, ℕ, Bool, true, false, List}
use Rattle.watched.specs.Streams.{Sink, Writes}
use Rattle.census_rows.specs.declared.row.Row.{Row}
use Rattle.census_reports.specs.Forms.{IsMade, IsInPieces, OfRows, PutsFront, RefusesRows, RefusesTexts}
use Rattle.census_reports.specs.declared.error.ReportsError.{ReportsError}
use Rattle.census_reports.specs.declared.error.ReportsError.TheVariants.{Memory, Write}
use Rattle.census_reports.specs.declared.form.Form.{Form}

-- what is made of rows was written, and whether what was looked for was found
pub record WritesRows (form : Form) (found : Bool) (rows : List Row) (before after : Sink) : Type 0 where
  pub made : List ℕ
  pub is : IsMade form rows found made
  pub written : Writes made before after

-- not all of it was: the writer took no more
pub record WritesRowsInPart (form : Form) (rows : List Row) (before after : Sink) : Type 0 where
  pub front : PutsFront form rows before after
  pub failed : after.failed ≡ true

-- not all of what is written piece by piece was
pub record HaltsRows (form : Form) (rows : List Row) (before after : Sink) : Type 0 where
  pub pieces : IsInPieces form
  pub front : PutsFront form rows before after
  pub sound : after.failed ≡ false

-- Why not all was written. Where the writer didn't fail, nothing was, or out of memory not all of what is written piece by piece.
abbrev pub FailsRows : ReportsError → Form → List Row → Sink → Sink → Type 0
FailsRows Write form rows before after = WritesRowsInPart form rows before after
FailsRows Memory form rows before after = (after ≡ before) ⊎ HaltsRows form rows before after
FailsRows error form rows before after = RefusesRows error form rows × (after ≡ before)

-- the same of the reports in texts
abbrev pub WritesTexts : Form → Bool → List (List ℕ) → Sink → Sink → Type 0
WritesTexts form found texts before after = OfRows texts (λ rows. WritesRows form found rows before after)

abbrev pub FailsTexts : ReportsError → Form → List (List ℕ) → Sink → Sink → Type 0
FailsTexts Write form texts before after = OfRows texts (λ rows. WritesRowsInPart form rows before after)
FailsTexts Memory form texts before after = (after ≡ before) ⊎ OfRows texts (λ rows. HaltsRows form rows before after)
FailsTexts error form texts before after = RefusesTexts error form texts × (after ≡ before)
