-- A text that is cut at its first LF.
use Rattle.std.proofs.Common.{◌≡◌, ℕ, List, [], ◌∷◌, ◌++◌, take, drop, ap, ◌∙◌, sym, append_assoc, eqb, Some, None, subst, refl}
use Rattle.std.specs.Prelude.{position}
use Rattle.std.proofs.Common.{take-append-drop}
use Rattle.census_rows.specs.declared.row.Row.{Row}
use Rattle.census_rows.specs.Lines.{row_text, line_of}
use Rattle.census_readback.specs.Texts.{HasNoFeed, IsLine}
use Rattle.census_readback.proofs.Feeds.{some-feed, no-feed, no-line, one-line}

pub cut-front : (text front : List ℕ) (at : ℕ) → position (λ b. eqb b 10) text ≡ Some at → front ≡ take at text → HasNoFeed front
cut-front text front at e f = rw f (some-feed text at e).0

pub cut-whole : (text front back : List ℕ) (at : ℕ) → position (λ b. eqb b 10) text ≡ Some at → front ≡ take at text → back ≡ drop at text
    → text ≡ front ++ 10 ∷ drop 1 back
cut-whole text front back at e f b =
    sym (take-append-drop at text) ∙ ap (λ w. take at text ++ w) (some-feed text at e).1 ∙ rw (f, b) refl

-- if a text begins with a row's line, that is what is cut off
pub cut-line : (text front back : List ℕ) (at : ℕ) (row : Row) (after : List ℕ) → position (λ b. eqb b 10) text ≡ Some at → front ≡ take at text → back ≡ drop at text
    → IsLine row → text ≡ line_of row ++ after → (front ≡ row_text row) × (drop 1 back ≡ after)
cut-line text front back at row after e f b is h =
    one-line front (row_text row) (drop 1 back) after (cut-front text front at e f) is.1
    (sym (cut-whole text front back at e f b) ∙ h ∙ append_assoc (row_text row) (10 ∷ []) after)

-- a text without LF has no row's line
pub uncut : (text : List ℕ) (row : Row) (after : List ℕ) → position (λ b. eqb b 10) text ≡ None → text ≡ line_of row ++ after → ⊥
uncut text row after e h = no-line (row_text row) after (subst HasNoFeed (h ∙ append_assoc (row_text row) (10 ∷ []) after) (no-feed text e))
