-- Lines of rows, one after another.
use Rattle.std.proofs.Common.{◌≡◌, List, [], ◌∷◌, ◌++◌, append_assoc, ap, ◌∙◌, sym, refl}
use Rattle.census_rows.specs.declared.row.Row.{Row}
use Rattle.census_rows.specs.Lines.{line_of, text_of}

pub text-append : (xs ys : List Row) → text_of (xs ++ ys) ≡ text_of xs ++ text_of ys
text-append [] ys = refl
text-append (x ∷ xs) ys = ap (λ w. line_of x ++ w) (text-append xs ys) ∙ sym (append_assoc (line_of x) (text_of xs) (text_of ys))
