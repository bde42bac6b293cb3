-- What is put by way of a block is written, as far as memory lasts.
use Rattle.std.proofs.Common.{◌≡◌, ◌∙◌, ℕ, ◌≤◌, Bool, true, false, List, [], ◌++◌, length, take, Option, Result, Ok, Err, MatchBool, MatchResult, sym, ap, subst, arith, append-nil, length-append}
use Rattle.std.proofs.lemmas.List.{take-append-le, take_all}
use Rattle.std.specs.Io.KnownBytes.{Appends}
use Rattle.watched.specs.Watching.{AppendsFront}
use Rattle.watched.specs.Telling.{Sheet, TellsAfter, TellsFront}
use Rattle.watched.proofs.Telling.{all_told, tells_more}
use Rattle.census_rows.specs.declared.row.Row.{Row}
use Rattle.census_page.specs.Pages.{Names, PutsRows, PutsSomeFront}
use Rattle.census_reports.specs.Forms.{IsMade}
use Rattle.census_reports.specs.Written.{WritesRows}
use Rattle.census_reports.specs.declared.form.Form.{Form}
use Rattle.census_reports.proofs.Told.{sink_of}

-- a prefix of a text is one of a longer text
front_longer : (a b : Option (List ℕ)) (all xs ys : List ℕ) → all ≡ xs ++ ys → AppendsFront a b xs → AppendsFront a b all
front_longer a b all xs ys e q =
    let within : q.0 ≤ length xs = q.1 in
    (q.0, (let h = ap length e in omega (arith, h, length-append xs ys)), subst (Appends a b) (sym (ap (take q.0) e ∙ take-append-le q.0 xs ys within)) q.2)

-- what was written, whole or in part, is a prefix
any_front : (failed : Bool) (a b : Option (List ℕ)) (xs : List ℕ) → MatchBool failed (AppendsFront a b xs) (Appends a b xs) → AppendsFront a b xs
any_front true a b xs h = h
any_front false a b xs h = (length xs, omega arith, subst (Appends a b) (sym (take_all (length xs) xs (omega arith))) h)

front_of : {A B : Type 0} (r : Result A B) (text : List ℕ) (a b : Sheet) → MatchResult r (λ _. TellsAfter text a b) (λ _. TellsFront text a b) → TellsFront text a b
front_of (Ok x) text a b h = record { front = text; rest = []; whole = sym (append-nil text); tells = h }
front_of (Err e) text a b h = h

-- a page that is put, whole or in part, is put in part
pub page_front : {A B : Type 0} (r : Result A B) (names : Names) (Are : List Row → Type 0) (a b : Sheet) → PutsRows names r Are a b → PutsSomeFront names Are a b
page_front (Ok x) names Are a b h = record {
  rows = h.rows;
  are = h.are;
  puts = record { text = h.puts.text; is = h.puts.is; tells = record { front = h.puts.text; rest = []; whole = sym (append-nil h.puts.text); tells = h.puts.tells } };
}
page_front (Err e) names Are a b h = h

-- what was put before the block was sent is written
module _ (a b c : Sheet) (empty : a.pending ≡ []) (sent : TellsAfter [] b c) (clear : c.pending ≡ []) where
  told : (bytes : List ℕ) → TellsAfter bytes a b → MatchBool c.failed (AppendsFront a.written c.written bytes) (Appends a.written c.written bytes)
  told bytes h = all_told bytes a c empty clear (subst (λ t. TellsAfter t a c) (append-nil bytes) (tells_more bytes [] a b c h sent))

  pub in_front : (text : List ℕ) → TellsFront text a b → AppendsFront a.written c.written text
  in_front text h = front_longer a.written c.written text h.front h.rest h.whole (any_front c.failed a.written c.written h.front (told h.front h.tells))

  pub all_written : (form : Form) (rows : List Row) (found : Bool) (text : List ℕ) → IsMade form rows found text → TellsAfter text a b → c.failed ≡ false
      → WritesRows form found rows (sink_of a) (sink_of c)
  all_written form rows found text is h sound = record {
    made = text;
    is = is;
    written = record { written = subst (λ f. MatchBool f (AppendsFront a.written c.written text) (Appends a.written c.written text)) sound (told text h); sound = sound };
  }

  pub front_written : {A B : Type 0} (r : Result A B) (text : List ℕ) → MatchResult r (λ _. TellsAfter text a b) (λ _. TellsFront text a b)
      → AppendsFront a.written c.written text
  front_written r text h = in_front text (front_of r text a b h)
