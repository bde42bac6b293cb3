-- Lines of rows, one after another.
use Rattle.std.proofs.Common.{◌≡◌, ℕ, List, [], ◌∷◌, ◌++◌, append_assoc, ap, ◌∙◌, sym}
use Rattle.std.proofs.lemmas.List.{append-nil}
use Rattle.census_rows.specs.declared.row.Row.{Row}
use Rattle.census_rows.proofs.Texts.{text-append}
use Rattle.census_readback.specs.Texts.{AllLines, IsLine}
use Rattle.census_rows.specs.Lines.{line_of, text_of}

-- one more row, read from what was left
pub text-more : (xs : List Row) (x : Row) (text rest after : List ℕ) → text ≡ text_of xs ++ rest → rest ≡ line_of x ++ after → text ≡ text_of (xs ++ x ∷ []) ++ after
text-more xs x text rest after e h =
    let one : text_of (x ∷ []) ≡ line_of x = append-nil (line_of x) in
    e ∙ ap (λ w. text_of xs ++ w) h ∙ sym (append_assoc (text_of xs) (line_of x) after)
    ∙ ap (λ w. (text_of xs ++ w) ++ after) (sym one) ∙ ap (λ w. w ++ after) (sym (text-append xs (x ∷ [])))

pub lines-more : (xs : List Row) (x : Row) → AllLines xs → IsLine x → AllLines (xs ++ x ∷ [])
lines-more [] x h k = (k, tt)
lines-more (y ∷ xs) x h k = (h.0, lines-more xs x h.1 k)
