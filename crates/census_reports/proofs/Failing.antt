-- Why not all was written, from rows to texts and from texts to words.
use Rattle.std.proofs.Common.{◌≡◌, ℕ, Bool, true, false, List, [], Result, Ok, Err, MatchResult, refl, sym, subst, inl, inr}
use Rattle.census_merge.specs.declared.mending.Cut.{Cut}
use Rattle.census_folders.specs.Told.{Told}
use Rattle.census_folders.specs.Hearing.{words_or_input}
use Rattle.watched.specs.Streams.{Sink}
use Rattle.census_rows.specs.declared.row.Row.{Row}
use Rattle.census_reports.specs.Forms.{RefusesRows, RefusesTexts}
use Rattle.census_reports.specs.Looking.{FailsRead, RefusesRead, WritesRead}
use Rattle.census_reports.specs.Mending.{AreLookedAt, AreMended, LackMending}
use Rattle.census_reports.specs.Outcomes.{ReadsTexts, ReportsFail, WritesReports}
use Rattle.census_reports.specs.Rows.{AreRowsOf, LackRows}
use Rattle.watched.specs.Streams.{Streams}
use Rattle.census_reports.specs.Texts.{StopsReadingTexts}
use Rattle.census_reports.specs.Written.{FailsRows, FailsTexts, WritesRows, WritesTexts}
use Rattle.census_reports.specs.declared.error.ReportsError.{ReportsError}
use Rattle.census_reports.specs.declared.error.ReportsError.TheVariants.{Claims, Names, Fault, TooMany, Unread, Memory, Write}
use Rattle.census_reports.specs.declared.form.Form.{Form}
use Rattle.census_reports.specs.declared.form.Form.TheVariants.{Merged, Table, Page, Same, Verdict}
use Rattle.census_reports.specs.declared.reading.Reading.{Reading}
use Rattle.census_reports.specs.declared.reading.Written.{Written}
use Rattle.census_reports.proofs.Mended.{none-broken}

pub lacking : (error : ReportsError) (form : Form) (texts : List (List ℕ)) (s : Sink) → LackRows error texts → FailsTexts error form texts s s
lacking (Fault number line kind) form texts s why = (why, refl)
lacking (Claims line is_named) form texts s why = absurd why
lacking (Names line) form texts s why = absurd why
lacking (TooMany report) form texts s why = absurd why
lacking (Unread text fault) form texts s why = absurd why
lacking Memory form texts s why = inl refl
lacking Write form texts s why = absurd why

-- why nothing is written of rows is why nothing is written of their texts
of-rows : (error : ReportsError) (form : Form) (rows : List Row) (texts : List (List ℕ)) → AreRowsOf rows texts → RefusesRows error form rows → RefusesTexts error form texts
of-rows (Claims line is_named) (Verdict claims) rows texts are why = why
of-rows (Claims line is_named) Merged rows texts are why = absurd why
of-rows (Claims line is_named) (Table subject format given) rows texts are why = absurd why
of-rows (Claims line is_named) (Page options given) rows texts are why = absurd why
of-rows (Claims line is_named) (Same json) rows texts are why = absurd why
of-rows (Names line) (Table subject format given) rows texts are why = why
of-rows (Names line) Merged rows texts are why = absurd why
of-rows (Names line) (Page options given) rows texts are why = why
of-rows (Names line) (Same json) rows texts are why = absurd why
of-rows (Names line) (Verdict claims) rows texts are why = absurd why
of-rows (TooMany report) Merged rows texts are why = (rows, are, why)
of-rows (TooMany report) (Table subject format given) rows texts are why = absurd why
of-rows (TooMany report) (Page options given) rows texts are why = absurd why
of-rows (TooMany report) (Same json) rows texts are why = absurd why
of-rows (TooMany report) (Verdict claims) rows texts are why = absurd why
of-rows (Fault number line kind) form rows texts are why = absurd why
of-rows (Unread text fault) form rows texts are why = absurd why
of-rows Memory form rows texts are why = tt
of-rows Write form rows texts are why = absurd why

pub refused : (error : ReportsError) (form : Form) (rows : List Row) (texts : List (List ℕ)) (s : Sink) → AreRowsOf rows texts → RefusesRows error form rows → FailsTexts error form texts s s
refused (Claims line is_named) form rows texts s are why = (of-rows (Claims line is_named) form rows texts are why, refl)
refused (Names line) form rows texts s are why = (of-rows (Names line) form rows texts are why, refl)
refused (Fault number line kind) form rows texts s are why = absurd why
refused (TooMany report) form rows texts s are why = (of-rows (TooMany report) form rows texts are why, refl)
refused (Unread text fault) form rows texts s are why = absurd why
refused Memory form rows texts s are why = inl refl
refused Write form rows texts s are why = absurd why

pub failing : (error : ReportsError) (form : Form) (rows : List Row) (texts : List (List ℕ)) (a b : Sink) → AreRowsOf rows texts
    → FailsRows error form rows a b → FailsTexts error form texts a b
failing (Claims line is_named) form rows texts a b are why = (of-rows (Claims line is_named) form rows texts are why.0, why.1)
failing (Names line) form rows texts a b are why = (of-rows (Names line) form rows texts are why.0, why.1)
failing (Fault number line kind) form rows texts a b are why = absurd why.0
failing (TooMany report) form rows texts a b are why = (of-rows (TooMany report) form rows texts are why.0, why.1)
failing (Unread text fault) form rows texts a b are why = absurd why.0
failing Memory form rows texts a b are (inl same) = inl same
failing Memory form rows texts a b are (inr halts) =
    inr (rows, are, halts)
failing Write form rows texts a b are part = (rows, are, part)

-- what is made of the rows of texts is made of the texts
pub of_texts : (r : Result Bool ReportsError) (form : Form) (rows : List Row) (texts : List (List ℕ)) (a b : Sink) → AreRowsOf rows texts
    → MatchResult r (λ found. WritesRows form found rows a b) (λ error. FailsRows error form rows a b) → MatchResult r (λ found. WritesTexts form found texts a b) (λ error. FailsTexts error form texts a b)
of_texts (Ok found) form rows texts a b are h = (rows, are, h)
of_texts (Err error) form rows texts a b are h = failing error form rows texts a b are h

-- ---- from texts that are looked at to those that were read

looked-refused : (error : ReportsError) (form : Form) (cut : Bool) (texts looked : List (List ℕ)) (cuts : List Cut) → AreLookedAt cut texts looked cuts → RefusesTexts error form looked
    → RefusesRead error cut form texts
looked-refused (Claims line is_named) form cut texts looked cuts are why = (looked, cuts, are, why)
looked-refused (Names line) form cut texts looked cuts are why = (looked, cuts, are, why)
looked-refused (Fault number line kind) form true texts looked cuts are why = absurd (none-broken texts looked cuts are number line why)
looked-refused (Fault number line kind) form false texts looked cuts are why = (looked, cuts, are, why)
looked-refused (TooMany report) form cut texts looked cuts are why = (looked, cuts, are, why)
looked-refused (Unread text fault) form cut texts looked cuts are why = absurd why
looked-refused Memory form cut texts looked cuts are why = (looked, cuts, are, why)
looked-refused Write form cut texts looked cuts are why = absurd why

pub looked-fails : (error : ReportsError) (form : Form) (cut : Bool) (texts looked : List (List ℕ)) (cuts : List Cut) (a b : Sink) → AreLookedAt cut texts looked cuts
    → FailsTexts error form looked a b → FailsRead error cut form texts a b
looked-fails (Claims line is_named) form cut texts looked cuts a b are why = (looked-refused (Claims line is_named) form cut texts looked cuts are why.0, why.1)
looked-fails (Names line) form cut texts looked cuts a b are why = (looked-refused (Names line) form cut texts looked cuts are why.0, why.1)
looked-fails (Fault number line kind) form cut texts looked cuts a b are why = (looked-refused (Fault number line kind) form cut texts looked cuts are why.0, why.1)
looked-fails (TooMany report) form cut texts looked cuts a b are why = (looked-refused (TooMany report) form cut texts looked cuts are why.0, why.1)
looked-fails (Unread text fault) form cut texts looked cuts a b are why = absurd why.0
looked-fails Memory form cut texts looked cuts a b are (inl same) = inl same
looked-fails Memory form cut texts looked cuts a b are (inr halts) = inr (looked, cuts, are, halts)
looked-fails Write form cut texts looked cuts a b are part = (looked, cuts, are, part)

-- texts that are not mended
pub unmended : (error : ReportsError) (form : Form) (texts : List (List ℕ)) (s : Sink) → LackMending error texts → FailsRead error true form texts s s
unmended (Fault number line kind) form texts s why = (why, refl)
unmended (Claims line is_named) form texts s why = absurd why
unmended (Names line) form texts s why = absurd why
unmended (TooMany report) form texts s why = absurd why
unmended (Unread text fault) form texts s why = absurd why
unmended Memory form texts s why = inl refl
unmended Write form texts s why = absurd why

-- texts that are mended, where that is asked for
pub mended-fails : (error : ReportsError) (form : Form) (cut : Bool) (texts looked : List (List ℕ)) (cuts : List Cut) (a b : Sink) → cut ≡ true → AreMended texts looked cuts
    → FailsTexts error form looked a b → FailsRead error cut form texts a b
mended-fails error form cut texts looked cuts a b asked are why =
    subst (λ c. FailsRead error c form texts a b) (sym asked) (looked-fails error form true texts looked cuts a b are why)

-- texts that are looked at as they were read, where that is asked for
pub read-fails : (error : ReportsError) (form : Form) (cut : Bool) (texts : List (List ℕ)) (a b : Sink) → cut ≡ false → FailsTexts error form texts a b → FailsRead error cut form texts a b
read-fails error form cut texts a b plain why =
    subst (λ c. FailsRead error c form texts a b) (sym plain) (looked-fails error form false texts texts [] a b (refl, refl) why)

module _ (form : Form) (reading : Reading) (held : List ℕ → Told) (words : List (List ℕ)) (a b : Streams) where
  pub stopping : (error : ReportsError) → StopsReadingTexts error reading.limit held (words_or_input words) a.input b.input → b.output ≡ a.output
      → ReportsFail error form reading held words a b
  stopping (Claims line is_named) stops same = absurd stops.why
  stopping (Names line) stops same = absurd stops.why
  stopping (Fault number line kind) stops same = absurd stops.why
  stopping (TooMany report) stops same = absurd stops.why
  stopping (Unread text fault) stops same = (stops, same)
  stopping Memory stops same = (stops.why.1, inl same)
  stopping Write stops same = absurd stops.why

  pub refusing : (error : ReportsError) (texts : List (List ℕ)) → ReadsTexts reading.limit held words texts a.input b.input → FailsRead error reading.cut form texts a.output b.output
      → ReportsFail error form reading held words a b
  refusing (Claims line is_named) texts read why = (texts, read, why)
  refusing (Names line) texts read why = (texts, read, why)
  refusing (Fault number line kind) texts read why = (texts, read, why)
  refusing (TooMany report) texts read why = (texts, read, why)
  refusing (Unread text fault) texts read why = absurd why.0.3
  refusing Memory texts read why = (read.sound, inr (texts, read, why))
  refusing Write texts read why = (texts, read, why)

  pub writing : (result : Written) (texts : List (List ℕ)) → ReadsTexts reading.limit held words texts a.input b.input → WritesRead form reading.cut result texts a.output b.output
      → WritesReports form reading result held words a b
  writing result texts read h = (texts, read, h)
