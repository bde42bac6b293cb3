-- What is said before reports are compared, from rows to texts and from texts to words.
use Rattle.std.proofs.Common.{◌≡◌, ◌⊎◌, ℕ, Bool, true, false, List, [], Result, Ok, Err, MatchResult, inl, inr, refl, subst, sym}
use Rattle.census_merge.specs.declared.mending.Cut.{Cut}
use Rattle.census_rows.specs.declared.row.Row.{Row}
use Rattle.watched.specs.Streams.{Sink, Streams}
use Rattle.census_folders.specs.Told.{Told}
use Rattle.census_reports.specs.Forms.{MaySay, SaysOfRows, SaysOfTexts}
use Rattle.census_reports.specs.Looking.{SaysRead}
use Rattle.census_reports.specs.Mending.{AreLookedAt, AreMended}
use Rattle.census_reports.specs.Outcomes.{SaysOfReports}
use Rattle.census_reports.specs.Rows.{AreRowsOf}
use Rattle.census_reports.specs.Written.{FailsTexts, WritesTexts}
use Rattle.census_reports.specs.declared.error.ReportsError.{ReportsError}
use Rattle.census_reports.specs.declared.form.Form.{Form}
use Rattle.census_reports.specs.declared.reading.Reading.{Reading}
use Rattle.census_reports.specs.declared.form.Form.TheVariants.{Merged}

-- what is said whatever comes of it
pub said_either : {A B : Type 0} (r : Result A B) (P Q : Type 0) → Q → MatchResult r (λ _. Q) (λ _. P ⊎ Q)
said_either (Ok x) P Q h = h
said_either (Err e) P Q h = inr h

pub lifted : {A B : Type 0} (r : Result A B) (P Q R : Type 0) → (Q → R) → MatchResult r (λ _. Q) (λ _. P ⊎ Q) → MatchResult r (λ _. R) (λ _. P ⊎ R)
lifted (Ok x) P Q R f h = f h
lifted (Err e) P Q R f (inl h) = inl h
lifted (Err e) P Q R f (inr h) = inr (f h)

pub says_of_texts : {A B : Type 0} (r : Result A B) (form : Form) (rows : List Row) (texts : List (List ℕ)) (a b : Sink) → AreRowsOf rows texts
    → MatchResult r (λ _. SaysOfRows form rows a b) (λ _. MaySay form rows a b) → MatchResult r (λ _. SaysOfTexts form texts a b) (λ _. (b ≡ a) ⊎ SaysOfTexts form texts a b)
says_of_texts r form rows texts a b are h = lifted r (b ≡ a) (SaysOfRows form rows a b) (SaysOfTexts form texts a b) (λ says. (rows, are, says)) h

-- nothing is said where one report is written
pub quiet_merge : (r : Result Bool ReportsError) (texts : List (List ℕ)) (a b s : Sink)
    → MatchResult r (λ found. WritesTexts Merged found texts a b) (λ error. FailsTexts error Merged texts a b)
    → MatchResult r (λ _. SaysOfTexts Merged texts s s) (λ _. (s ≡ s) ⊎ SaysOfTexts Merged texts s s)
quiet_merge (Ok found) texts a b s h = (h.0, h.1, refl)
quiet_merge (Err error) texts a b s h = inl refl

pub of_looked : {A B : Type 0} (r : Result A B) (form : Form) (cut : Bool) (texts looked : List (List ℕ)) (cuts : List Cut) (a b : Sink) → AreLookedAt cut texts looked cuts
    → MatchResult r (λ _. SaysOfTexts form looked a b) (λ _. (b ≡ a) ⊎ SaysOfTexts form looked a b)
    → MatchResult r (λ _. SaysRead form cut texts a b) (λ _. (b ≡ a) ⊎ SaysRead form cut texts a b)
of_looked r form cut texts looked cuts a b are h =
    lifted r (b ≡ a) (SaysOfTexts form looked a b) (SaysRead form cut texts a b) (λ says. (looked, cuts, are, says)) h

pub quiet_of : {A B : Type 0} (r : Result A B) (reading : Reading) (held : List ℕ → Told) (words : List (List ℕ)) (before after : Streams) (old new : Sink)
    → MatchResult r (λ _. SaysOfReports Merged reading held words before after old new) (λ _. (new ≡ old) ⊎ SaysOfReports Merged reading held words before after old new)
    → new ≡ old
quiet_of (Ok x) reading held words before after old new h = h.2.3.2
quiet_of (Err e) reading held words before after old new (inl same) = same
quiet_of (Err e) reading held words before after old new (inr h) = h.2.3.2

-- what was said where texts were mended, and where they were not
pub says_mended : (form : Form) (cut : Bool) (texts looked : List (List ℕ)) (cuts : List Cut) (a b : Sink) → cut ≡ true → AreMended texts looked cuts
    → (b ≡ a) ⊎ SaysOfTexts form looked a b → (b ≡ a) ⊎ SaysRead form cut texts a b
says_mended form cut texts looked cuts a b asked are (inl same) = inl same
says_mended form cut texts looked cuts a b asked are (inr says) =
    inr (subst (λ k. SaysRead form k texts a b) (sym asked) (looked, cuts, are, says))

pub says_plain : (form : Form) (cut : Bool) (texts : List (List ℕ)) (a b : Sink) → cut ≡ false
    → (b ≡ a) ⊎ SaysOfTexts form texts a b → (b ≡ a) ⊎ SaysRead form cut texts a b
says_plain form cut texts a b plain (inl same) = inl same
says_plain form cut texts a b plain (inr says) = inr (subst (λ k. SaysRead form k texts a b) (sym plain) (texts, [], (refl, refl), says))
