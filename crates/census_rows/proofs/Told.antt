-- Fields told one after another.
use Rattle.std.proofs.Common.{◌≡◌, ℕ, Option, Some, None, refl, arith, suc, ◌+◌, ◌<◌, ◌≤◌, drop, drop-cons, get_or, length, List, [], ◌∷◌, ◌++◌, ap, append_assoc, ◌∙◌, subst, sym}
use Rattle.std.proofs.lemmas.List.{drop_all}
use Rattle.watched.specs.Telling.{Sheet, TellsAfter}
use Rattle.watched.proofs.Telling.{tells_more, tells_none}
use Rattle.census_rows.specs.declared.kinds.Field.{Field}
use Rattle.census_rows.specs.Kinds.{present, texts_of, value_text}
use Rattle.census_rows.specs.Lines.{fields_text}
use Rattle.census_rows.proofs.FieldTexts.{behind-append}

pub field_told : (field : List ℕ) (a b c : Sheet) → TellsAfter (32 ∷ []) a b → TellsAfter field b c → TellsAfter (32 ∷ field) a c
field_told field a b c p q = tells_more (32 ∷ []) field a b c p q

pub field_then : (field : List ℕ) (fields : List (List ℕ)) (a b c : Sheet) → TellsAfter (32 ∷ field) a b → TellsAfter (fields_text fields) b c → TellsAfter (fields_text (field ∷ fields)) a c
field_then field fields a b c p q = tells_more (32 ∷ field) (fields_text fields) a b c p q

pub field_last : (field : List ℕ) (a b : Sheet) → TellsAfter (32 ∷ field) a b → TellsAfter (fields_text (field ∷ [])) a b
field_last field a b p = field_then field [] a b b p (tells_none b)

pub fields_more : (xs ys : List (List ℕ)) (a b c : Sheet) → TellsAfter (fields_text xs) a b → TellsAfter (fields_text ys) b c → TellsAfter (fields_text (xs ++ ys)) a c
fields_more xs ys a b c p q = subst (λ t. TellsAfter t a c) (sym (behind-append xs ys)) (tells_more (fields_text xs) (fields_text ys) a b c p q)

-- more fields after the first ones of a line
pub fields_behind : (kind : List ℕ) (xs ys : List (List ℕ)) (a b c : Sheet) → TellsAfter (kind ++ fields_text xs) a b → TellsAfter (fields_text ys) b c → TellsAfter (kind ++ fields_text (xs ++ ys)) a c
fields_behind kind xs ys a b c p q =
    subst (λ t. TellsAfter t a c) (append_assoc kind (fields_text xs) (fields_text ys) ∙ ap (λ w. kind ++ w) (sym (behind-append xs ys)))
    (tells_more (kind ++ fields_text xs) (fields_text ys) a b c p q)

one-more : (field : Option Field) (fields : List (Option Field)) → fields_text (texts_of (present (field ∷ fields))) ≡ fields_text (texts_of (present (field ∷ []))) ++ fields_text (texts_of (present fields))
one-more None fields = refl
one-more (Some field) fields = behind-append (value_text field.value ∷ []) (texts_of (present fields))

-- a field of those that there are, and then the others
pub optional_then : (field : Option Field) (fields : List (Option Field)) (a b c : Sheet) → TellsAfter (fields_text (texts_of (present (field ∷ [])))) a b
    → TellsAfter (fields_text (texts_of (present fields))) b c → TellsAfter (fields_text (texts_of (present (field ∷ fields)))) a c
optional_then field fields a b c p q =
    subst (λ t. TellsAfter t a c) (sym (one-more field fields))
    (tells_more (fields_text (texts_of (present (field ∷ [])))) (fields_text (texts_of (present fields))) a b c p q)

-- the field at a place, and then those after it
pub optional_at : (fields : List (Option Field)) (i : ℕ) (d : Option Field) (a b c : Sheet) → i < length fields
    → TellsAfter (fields_text (texts_of (present (get_or fields i d ∷ [])))) a b
    → TellsAfter (fields_text (texts_of (present (drop (i + 1) fields)))) b c → TellsAfter (fields_text (texts_of (present (drop i fields)))) a c
optional_at fields i d a b c less p q =
    let step : suc i ≡ i + 1 = omega arith in
    let cut = drop-cons fields i d less ∙ ap (λ k. get_or fields i d ∷ drop k fields) step in
    subst (λ w. TellsAfter (fields_text (texts_of (present w))) a c) (sym cut) (optional_then (get_or fields i d) (drop (i + 1) fields) a b c p q)

-- behind all fields nothing is left to tell
pub optional_end : (fields : List (Option Field)) (i : ℕ) (a : Sheet) → length fields ≤ i → TellsAfter (fields_text (texts_of (present (drop i fields)))) a a
optional_end fields i a most = subst (λ w. TellsAfter (fields_text (texts_of (present w))) a a) (sym (drop_all i fields most)) (tells_none a)
