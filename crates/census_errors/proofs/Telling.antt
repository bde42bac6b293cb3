-- What is written piece by piece.
use Rattle.std.proofs.Common.{◌≡◌, ℕ, ◌+◌, ◌<◌, Bool, true, false, if◌then◌else◌, List, [], ◌∷◌, ◌++◌, codes, length, take, slice_index, Result, Ok, Err, IsOk, OnOk, MatchBool, refl, ap, subst, sym, true≢false, ◌∙◌}
use Rattle.std.proofs.lemmas.Bool.{and_from}
use Rattle.std.proofs.lemmas.Grind.{flat_map-append}
use Rattle.std.proofs.lemmas.List.{append-nil, append_assoc, take_more}
use Rattle.std.proofs.lemmas.List.Folds.{list_all-append}
use Rattle.std.specs.List.{list_all}
use Rattle.watched.specs.Streams.{PutsBytes, PutsMoreBytes, Sink}
use Rattle.watched.proofs.Written.{tells_more}
use Rattle.hex.specs.Hex.{encode_lower}
use Rattle.census_bundle.specs.Names.{is_name_byte}
use Rattle.census_faults.proofs.Shown.{shows_name_bytes}
use Rattle.census_faults.specs.Explanations.{told_line}
use Rattle.census_faults.specs.Printed.{printable_text, printed_byte}
use Rattle.census_errors.specs.Explained.{Explains, TellsOf, TellsWords}
use Rattle.census_errors.specs.Messages.{error_line}
use Rattle.census_errors.specs.declared.error.CommandError.{CommandError}

-- one text was written after another, where either may be lost
pub more_after : (xs ys : List ℕ) (a b c : Sink) → PutsMoreBytes xs a b → PutsMoreBytes ys b c → PutsMoreBytes (xs ++ ys) a c
more_after xs ys a b c first more = at a.failed refl first
  where
    at : (f : Bool) → a.failed ≡ f → MatchBool f (b ≡ a) (PutsBytes xs a b) → MatchBool f (c ≡ a) (PutsBytes (xs ++ ys) a c)
    at true failed same =
        let still : b.failed ≡ true = ap (λ (e : Sink). e.failed) same ∙ failed in
        let lost : c ≡ b = subst (λ (f : Bool). MatchBool f (c ≡ b) (PutsBytes ys b c)) still more in
        lost ∙ same
    at false sound told = tells_more xs ys a b c told more

-- one more byte of a name
pub printed_more : (name : List ℕ) (i : ℕ) → i < length name → printable_text (take (i + 1) name) ≡ printable_text (take i name) ++ printed_byte (slice_index name i)
printed_more name i within =
    ap printable_text (take_more name i 0 within)
    ∙ flat_map-append printed_byte (take i name) (slice_index name i ∷ [])
    ∙ ap (λ (shown : List ℕ). printable_text (take i name) ++ shown) (append-nil (printed_byte (slice_index name i)))

-- a byte that no lawful name has
pub escaped_is : (byte : ℕ) → is_name_byte byte ≡ false → printed_byte byte ≡ 92 ∷ 120 ∷ encode_lower (byte ∷ [])
escaped_is byte no_name = ap (λ (b : Bool). if b then byte ∷ [] else 92 ∷ 120 ∷ encode_lower (byte ∷ [])) no_name

-- what an answer says of a value that is known to be there
pub of_ok : {A B : Type 0} (P : Type 0) (r : Result A B) → IsOk r → OnOk r P → P
of_ok P (Ok x) is p = p
of_ok P (Err e) is p = absurd (true≢false (sym is))

-- # Words

pub words_told : (bytes : List ℕ) (a b : Sink) → PutsMoreBytes (printable_text bytes) a b → TellsWords a b
words_told bytes a b told = record { words = printable_text bytes; shown = shows_name_bytes bytes; told = told }

pub words_more : (a b c : Sink) → TellsWords a b → TellsWords b c → TellsWords a c
words_more a b c first more = record {
  words = first.words ++ more.words;
  shown = list_all-append is_name_byte first.words more.words ∙ and_from (list_all is_name_byte first.words) (list_all is_name_byte more.words) first.shown more.shown;
  told = more_after first.words more.words a b c first.told more.told;
}

-- # Lines

-- a line
pub line_told : (a b c d : Sink) → PutsMoreBytes (codes "  ") a b → TellsWords b c → PutsMoreBytes (codes "\n") c d → Explains true a d
line_told a b c d blanks words end =
    let line = told_line words.words in
    record {
      lines = line;
      explained = record {
        words = words.words ∷ [];
        shown = and_from (list_all is_name_byte words.words) true words.shown refl;
        are = sym (append-nil line);
      };
      told = more_after (codes "  ") (words.words ++ codes "\n") a b d blanks (more_after words.words (codes "\n") b c d words.told end);
    }

-- a writer that has not failed before takes all, or fails
pub at_sound : (bytes : List ℕ) (a b : Sink) → a.failed ≡ false → PutsMoreBytes bytes a b → PutsBytes bytes a b
at_sound bytes a b sound told = subst (λ (f : Bool). MatchBool f (b ≡ a) (PutsBytes bytes a b)) sound told

-- the line of an error, and then what explains it
pub error_told : (error : CommandError) (explain : Bool) (a b c : Sink) → a.failed ≡ false → PutsMoreBytes (error_line error) a b → Explains explain b c → TellsOf error explain a c
error_told error explain a b c sound first more = record {
  lines = more.lines;
  explained = more.explained;
  told = tells_more (error_line error) more.lines a b c (at_sound (error_line error) a b sound first) more.told;
}
