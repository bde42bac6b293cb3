-- Lines of one collection or pattern after another.
use Rattle.std.proofs.Common.{◌≡◌, ℕ, ◌+◌, ◌<◌, List, ◌∷◌, ◌++◌, length, get_or, drop, ap, sym, ◌∙◌}
use Rattle.std.proofs.lemmas.List.{append_assoc, drop_more}
use Rattle.std.specs.List.{flat_map}

-- the lines of one more
pub next_lines : {A : Type 0} (f : A → List ℕ) (xs : List A) (i : ℕ) (x : A) (lines more whole : List ℕ) → i < length xs → x ≡ get_or xs i x
    → more ≡ lines ++ f x → lines ++ flat_map f (drop i xs) ≡ whole → more ++ flat_map f (drop (i + 1) xs) ≡ whole
next_lines f xs i x lines more whole within at is before =
    let rest = flat_map f (drop (i + 1) xs) in
    let next : flat_map f (drop i xs) ≡ f x ++ rest = ap (flat_map f) (drop_more xs i x within ∙ ap (λ l. l ∷ drop (i + 1) xs) (sym at)) in
    ap (λ l. l ++ rest) is ∙ append_assoc lines (f x) rest ∙ ap (λ l. lines ++ l) (sym next) ∙ before
