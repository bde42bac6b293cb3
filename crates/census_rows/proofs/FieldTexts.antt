-- Fields after one another.
use Rattle.std.proofs.Common.{◌≡◌, ℕ, List, [], ◌∷◌, ◌++◌, append_assoc, ap, ◌∙◌, sym, refl}
use Rattle.std.proofs.lemmas.List.{append-nil}
use Rattle.census_rows.specs.Lines.{fields_text, EndsField}

pub behind-append : (xs ys : List (List ℕ)) → fields_text (xs ++ ys) ≡ fields_text xs ++ fields_text ys
behind-append [] ys = refl
behind-append (x ∷ xs) ys = ap (λ w. 32 ∷ w) (ap (λ w. x ++ w) (behind-append xs ys) ∙ sym (append_assoc x (fields_text xs) (fields_text ys)))

pub behind-one : (x : List ℕ) → 32 ∷ x ≡ fields_text (x ∷ [])
behind-one x = ap (λ w. 32 ∷ w) (sym (append-nil x))

-- one field more in front
pub more-fields : (a : List ℕ) (fs : List (List ℕ)) (x y r : List ℕ) → x ≡ 32 ∷ a ++ y → y ≡ fields_text fs ++ r → x ≡ fields_text (a ∷ fs) ++ r
more-fields a fs x y r e h = e ∙ ap (λ w. 32 ∷ w) (ap (λ w. a ++ w) h ∙ sym (append_assoc a (fields_text fs) r))

-- the first of the fields
pub first-field : (a : List ℕ) (fs : List (List ℕ)) (x r : List ℕ) → x ≡ fields_text (a ∷ fs) ++ r → x ≡ 32 ∷ a ++ (fields_text fs ++ r)
first-field a fs x r e = e ∙ ap (λ w. 32 ∷ w) (append_assoc a (fields_text fs) r)

pub ends-behind : (fs : List (List ℕ)) (r : List ℕ) → EndsField r → EndsField (fields_text fs ++ r)
ends-behind [] r h = h
ends-behind (f ∷ fs) r h = refl

-- some fields, and then more
pub fields-then : (xs ys : List (List ℕ)) (x y : List ℕ) → x ≡ fields_text xs ++ y → y ≡ fields_text ys → x ≡ fields_text (xs ++ ys)
fields-then xs ys x y e h = e ∙ ap (λ w. fields_text xs ++ w) h ∙ sym (behind-append xs ys)
