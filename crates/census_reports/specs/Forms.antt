-- What is made of reports.
use Rattle.std.specs.Prelude.{◌≡◌, ◌⊎◌, ℕ, Bool, false, List, Option, Result, Ok, Err, Some, None}
use Rattle.std.specs.Borrow.{Bor}
use Rattle.std.specs.Result.{result_map_both}
use Rattle.watched.specs.Streams.{PutsMoreBytes, Sink}
use Rattle.watched.specs.Watching.{AppendsFront}
use Rattle.census_rows.specs.declared.row.Row.{Row}
use Rattle.census_rows.specs.Lines.{text_of}
use Rattle.census_merge.specs.Merged.{merged_rows}
use Rattle.census_merge.specs.Sums.{first_excess, no_sums}
use Rattle.census_facts.specs.NameLines.{names_in}
use Rattle.census_page.specs.Pages.{IsPageOf}
use Rattle.census_compare.specs.SamePatterns.{tolds_of}
use Rattle.census_compare.specs.Same.{FindsSame}
use Rattle.census_table.specs.Called.{Names as Named}
use Rattle.census_table.specs.Entries.{entries_of}
use Rattle.census_table.specs.Tables.{IsListingOf, Listing, listing_text}
use Rattle.census_compare.specs.Agreement.{IsVerdict}
use Rattle.census_compare.specs.Claims.{Taken, claims_in}
use Rattle.census_compare.specs.Notes.{compared_line, counted_note}
use Rattle.census_reports.specs.Rows.{AreRowsOf, HasReportFault}
use Rattle.census_reports.specs.declared.error.ReportsError.{ReportsError}
use Rattle.census_reports.specs.declared.error.ReportsError.TheVariants.{Claims, Names, Fault, TooMany, Memory}
use Rattle.census_reports.specs.declared.form.Form.{Form}
use Rattle.census_reports.specs.declared.form.Form.TheVariants.{Merged, Table, Page, Same, Verdict}

-- the names of a text, or that there are none where there is no text; or the line on which the text has its first fault
abbrev pub names_given : Option (Bor (List ℕ)) → Result Named ℕ
names_given None = Ok None
names_given (Some given) = result_map_both Some (λ line. line) (names_in given.now)

-- Whether what is looked for was found, patterns that are one object or what does not agree with claims, and what is written, of
-- the rows of reports that follow one another. Of what does not agree this does not say how it is written.
abbrev pub IsMade : Form → List Row → Bool → List ℕ → Type 0
IsMade Merged rows found text = (found ≡ false) × (first_excess 1 no_sums rows ≡ None) × (text ≡ text_of (merged_rows rows))
IsMade (Table subject format given) rows found text =
    (found ≡ false) × (names : Named) × (listing : Listing) × (names_given given ≡ Ok names) × IsListingOf subject names rows listing
    × (text ≡ listing_text format names listing)
IsMade (Page options given) rows found text = (found ≡ false) × (names : Named) × (names_given given ≡ Ok names) × IsPageOf options names rows text
IsMade (Same json) rows found text = FindsSame json (tolds_of rows) found text
IsMade (Verdict claims) rows found text =
    (taken : Taken) × (claims_in claims.now ≡ Ok taken) × IsVerdict taken.claims (entries_of rows) found text

-- What was written where not all was: a prefix of what is made of rows. Of what is found in them nothing is said then.
abbrev pub PutsFront : Form → List Row → Sink → Sink → Type 0
PutsFront (Same json) rows before after = Unit {0}
PutsFront (Verdict claims) rows before after = Unit {0}
PutsFront form rows before after = (text : List ℕ) × IsMade form rows false text × AppendsFront before.written after.written text

-- what is said on standard error before rows are compared
abbrev pub SaysOfRows : Form → List Row → Sink → Sink → Type 0
SaysOfRows (Same json) rows before after = PutsMoreBytes (counted_note rows) before after
SaysOfRows (Verdict claims) rows before after =
    (taken : Taken) × (claims_in claims.now ≡ Ok taken) × PutsMoreBytes (compared_line taken.titles) before after
SaysOfRows _ rows before after = after ≡ before

-- where an error ends it, it may have been said before
abbrev pub MaySay : Form → List Row → Sink → Sink → Type 0
MaySay form rows before after = (after ≡ before) ⊎ SaysOfRows form rows before after

-- written piece by piece, as everything but one report is
abbrev pub IsInPieces : Form → Type 0
IsInPieces Merged = ⊥
IsInPieces _ = Unit {0}

-- Why nothing is written of rows, or only a prefix of what is written piece by piece: a text of claims or of names has its first
-- fault on this line, or with this report there are too many collections for one report.
abbrev pub RefusesRows : ReportsError → Form → List Row → Type 0
RefusesRows (Claims line is_named) (Verdict claims) rows = claims_in claims.now ≡ Err line
RefusesRows (Names line) (Table subject format given) rows = names_given given ≡ Err line
RefusesRows (Names line) (Page options given) rows = names_given given ≡ Err line
RefusesRows (TooMany report) Merged rows = first_excess 1 no_sums rows ≡ Some report
RefusesRows Memory form rows = Unit {0}
RefusesRows error form rows = ⊥

-- # Of texts

-- each text is a report, or several, and this holds for all their rows
abbrev pub OfRows : List (List ℕ) → (List Row → Type 0) → Type 0
OfRows texts holds = (rows : List Row) × AreRowsOf rows texts × holds rows

abbrev pub SaysOfTexts : Form → List (List ℕ) → Sink → Sink → Type 0
SaysOfTexts form texts before after = OfRows texts (λ rows. SaysOfRows form rows before after)

-- The same of texts: one may also have its first wrong line, and where there are too many collections each is a report, or several.
abbrev pub RefusesTexts : ReportsError → Form → List (List ℕ) → Type 0
RefusesTexts (Claims line is_named) (Verdict claims) texts = claims_in claims.now ≡ Err line
RefusesTexts (Names line) (Table subject format given) texts = names_given given ≡ Err line
RefusesTexts (Names line) (Page options given) texts = names_given given ≡ Err line
RefusesTexts (Fault number line kind) form texts = HasReportFault number line texts
RefusesTexts (TooMany report) Merged texts = (rows : List Row) × AreRowsOf rows texts × (first_excess 1 no_sums rows ≡ Some report)
RefusesTexts Memory form texts = Unit {0}
RefusesTexts error form texts = ⊥
