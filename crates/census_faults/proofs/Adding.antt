-- Words and lines that are added to others.
use Rattle.std.proofs.Common.{◌≡◌, ℕ, Bool, true, false, if◌then◌else◌, List, [], ◌∷◌, ◌++◌, sym, refl, ap, subst, ◌∙◌}
use Rattle.std.proofs.lemmas.Bool.{and_from}
use Rattle.std.proofs.lemmas.Grind.{flat_map-append}
use Rattle.std.proofs.lemmas.List.{append-nil}
use Rattle.std.proofs.lemmas.List.Folds.{list_all-append}
use Rattle.std.specs.List.{flat_map, list_all}
use Rattle.census_bundle.specs.Names.{is_name_byte}
use Rattle.census_faults.specs.Explanations.{AreLines, told_line}
use Rattle.census_faults.specs.Printed.{printable_text}
use Rattle.census_faults.proofs.Shown.{shows_name_bytes}

words_more : (words bytes : List ℕ) → list_all is_name_byte words ≡ true → list_all is_name_byte (words ++ printable_text bytes) ≡ true
words_more words bytes before =
    list_all-append is_name_byte words (printable_text bytes)
    ∙ and_from (list_all is_name_byte words) (list_all is_name_byte (printable_text bytes)) before (shows_name_bytes bytes)

-- words to which bytes were added, unless memory was refused
pub words_added : (ok : Bool) (words more bytes next : List ℕ) → more ≡ printable_text bytes → list_all is_name_byte words ≡ true
    → next ≡ (if ok then words ++ more else words) → list_all is_name_byte next ≡ true
words_added true words more bytes next shown before is = ap (list_all is_name_byte) (is ∙ ap (λ xs. words ++ xs) shown) ∙ words_more words bytes before
words_added false words more bytes next shown before is = ap (list_all is_name_byte) is ∙ before

lines_more : (lines words : List ℕ) → AreLines lines → list_all is_name_byte words ≡ true → AreLines (lines ++ told_line words)
lines_more lines words before shown = record {
  words = before.words ++ words ∷ [];
  shown = list_all-append (list_all is_name_byte) before.words (words ∷ [])
      ∙ and_from (list_all (list_all is_name_byte) before.words) (list_all (list_all is_name_byte) (words ∷ [])) before.shown (and_from (list_all is_name_byte words) true shown refl);
  are = ap (λ xs. xs ++ told_line words) before.are ∙ ap (λ xs. flat_map told_line before.words ++ xs) (sym (append-nil (told_line words)))
      ∙ sym (flat_map-append told_line before.words (words ∷ []));
}

-- lines to which one was added, unless memory was refused
pub lines_added : (ok : Bool) (lines line words next : List ℕ) → line ≡ told_line words → list_all is_name_byte words ≡ true → AreLines lines
    → next ≡ (if ok then lines ++ line else lines) → AreLines next
lines_added true lines line words next told shown before is = subst AreLines (sym (is ∙ ap (λ xs. lines ++ xs) told)) (lines_more lines words before shown)
lines_added false lines line words next told shown before is = subst AreLines (sym is) before
