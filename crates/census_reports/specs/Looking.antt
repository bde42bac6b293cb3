-- What is written of texts that are looked at as they were read, or mended.
use Rattle.std.specs.Prelude.{◌≡◌, ◌⊎◌, ℕ, Bool, true, List}
use Rattle.census_merge.specs.declared.mending.Cut.{Cut}
use Rattle.watched.specs.Streams.{Sink}
use Rattle.census_reports.specs.Forms.{OfRows, RefusesTexts, SaysOfTexts}
use Rattle.census_reports.specs.Mending.{AreLookedAt, HasBrokenText}
use Rattle.census_reports.specs.Written.{HaltsRows, WritesRowsInPart, WritesTexts}
use Rattle.census_reports.specs.declared.error.ReportsError.{ReportsError}
use Rattle.census_reports.specs.declared.error.ReportsError.TheVariants.{Fault, Memory, Write}
use Rattle.census_reports.specs.declared.form.Form.{Form}
use Rattle.census_reports.specs.declared.reading.Written.{Written}

-- this holds for the texts that are looked at
abbrev pub OfLookedAt : Bool → List (List ℕ) → (List (List ℕ) → Type 0) → Type 0
OfLookedAt cut texts is = (looked : List (List ℕ)) × (cuts : List Cut) × AreLookedAt cut texts looked cuts × is looked

-- why nothing is written of texts, or only a prefix of what is written piece by piece: where texts are mended, one can't be
abbrev pub RefusesRead : ReportsError → Bool → Form → List (List ℕ) → Type 0
RefusesRead (Fault number line kind) true form texts = HasBrokenText number line texts
RefusesRead error cut form texts = OfLookedAt cut texts (λ looked. RefusesTexts error form looked)

-- what is made of the texts was written, whether what was looked for was found, and where they were cut
pub record WritesRead (form : Form) (cut : Bool) (result : Written) (texts : List (List ℕ)) (before after : Sink) : Type 0 where
  pub looked : List (List ℕ)
  pub looked_at : AreLookedAt cut texts looked result.cuts.items
  pub writes : WritesTexts form result.found looked before after

-- what is said before what is read is compared
abbrev pub SaysRead : Form → Bool → List (List ℕ) → Sink → Sink → Type 0
SaysRead form cut texts before after = OfLookedAt cut texts (λ looked. SaysOfTexts form looked before after)

-- why not all was written
abbrev pub FailsRead : ReportsError → Bool → Form → List (List ℕ) → Sink → Sink → Type 0
FailsRead Write cut form texts before after = OfLookedAt cut texts (λ looked. OfRows looked (λ rows. WritesRowsInPart form rows before after))
FailsRead Memory cut form texts before after = (after ≡ before) ⊎ OfLookedAt cut texts (λ looked. OfRows looked (λ rows. HaltsRows form rows before after))
FailsRead error cut form texts before after = RefusesRead error cut form texts × (after ≡ before)
