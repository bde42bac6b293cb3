-- Rows that say the same are written alike.
use Rattle.std.proofs.Common.{◌≡◌, ℕ, ℤ, ◌+◌, List, [], ◌∷◌, ◌++◌, codes, decimal, ap, ◌∙◌, refl}
use Rattle.std.specs.Fmt.{signed_decimal}
use Rattle.census_rows.specs.declared.kinds.Field.{Field}
use Rattle.census_rows.specs.declared.kinds.Value.{Value}
use Rattle.census_rows.specs.declared.kinds.Value.TheVariants.{Number, Signed, Text}
use Rattle.census_rows.specs.declared.row.Row.{Row}
use Rattle.census_rows.specs.declared.row.Row.TheVariants.{Open, Line, Part, Engine, Emits, Code, Close, End}
use Rattle.census_rows.specs.Kinds.{Said, said, texts_of, value_text}
use Rattle.census_rows.specs.Lines.{SameFields, SameRow, SameSaid, SameValue, line_of, outcome_fields, spelled, spelling_text}
use Rattle.census_merge.specs.Merged.{renumbered_row}
use Rattle.census_merge.specs.Sums.{sums_of}

value-same : (v w : Value) → SameValue v w → value_text v ≡ value_text w
value-same (Number n) (Number m) h = ap decimal h
value-same (Signed z) (Signed y) h = ap signed_decimal h
value-same (Text bytes) (Text others) h = h
value-same v w h = absurd h

fields-same : (fields others : List Field) → SameFields fields others → texts_of fields ≡ texts_of others
fields-same [] [] h = refl
fields-same [] (g ∷ others) h = absurd h
fields-same (f ∷ fields) [] h = absurd h
fields-same (f ∷ fields) (g ∷ others) h = ap (λ t. t ∷ texts_of fields) (value-same f.value g.value h.1) ∙ ap (λ ts. value_text g.value ∷ ts) (fields-same fields others h.2)

said-same : (s u : Said) → SameSaid s u → s.word ∷ texts_of s.fields ≡ u.word ∷ texts_of u.fields
said-same s u h = ap (λ w. w ∷ texts_of s.fields) h.0 ∙ ap (λ ts. u.word ∷ ts) (fields-same s.fields u.fields h.3)

abbrev told : List ℕ → ℕ → List (List ℕ) → List ℕ
told word number fields = spelling_text (spelled word number fields) ++ codes "\n"

pub line-same : (n : ℕ) (r q : Row) → SameRow r q → line_of (renumbered_row n r) ≡ line_of (renumbered_row n q)
line-same n (Open c k name) (Open c2 k2 name2) h =
    ap (λ m. told (codes "open") (n + m) (decimal k ∷ name.now ∷ [])) h.0 ∙ ap (λ m. told (codes "open") (n + c2) (decimal m ∷ name.now ∷ [])) h.1
    ∙ ap (λ w. told (codes "open") (n + c2) (decimal k2 ∷ w ∷ [])) h.2
line-same n (Line c i o name) (Line c2 i2 o2 name2) h =
    ap (λ m. told (codes "line") (n + m) (decimal i ∷ (outcome_fields o ++ name.now ∷ []))) h.0
    ∙ ap (λ m. told (codes "line") (n + c2) (decimal m ∷ (outcome_fields o ++ name.now ∷ []))) h.1
    ∙ ap (λ os. told (codes "line") (n + c2) (decimal i2 ∷ (os ++ name.now ∷ []))) (said-same (said o) (said o2) h.2)
    ∙ ap (λ w. told (codes "line") (n + c2) (decimal i2 ∷ (outcome_fields o2 ++ w ∷ []))) h.3
line-same n (Part c i code k) (Part c2 i2 code2 k2) h =
    ap (λ m. told (codes "part") (n + m) (decimal i ∷ code.now ∷ decimal k ∷ [])) h.0 ∙ ap (λ m. told (codes "part") (n + c2) (decimal m ∷ code.now ∷ decimal k ∷ [])) h.1
    ∙ ap (λ w. told (codes "part") (n + c2) (decimal i2 ∷ w ∷ decimal k ∷ [])) h.2 ∙ ap (λ m. told (codes "part") (n + c2) (decimal i2 ∷ code2.now ∷ decimal m ∷ [])) h.3
line-same n (Engine c i e p x y k) (Engine c2 i2 e2 p2 x2 y2 k2) h =
    let engine : ℕ → ℕ → ℕ → ℕ → ℤ → ℤ → ℕ → List ℕ = λ c i e p x y k.
    told (codes "engine") (n + c) (decimal i ∷ decimal e ∷ decimal p ∷ signed_decimal x ∷ signed_decimal y ∷ decimal k ∷ []) in
    ap (λ m. engine m i e p x y k) h.0 ∙ ap (λ m. engine c2 m e p x y k) h.1 ∙ ap (λ m. engine c2 i2 m p x y k) h.2
    ∙ ap (λ m. engine c2 i2 e2 m x y k) h.3 ∙ ap (λ z. engine c2 i2 e2 p2 z y k) h.4 ∙ ap (λ z. engine c2 i2 e2 p2 x2 z k) h.5
    ∙ ap (λ m. engine c2 i2 e2 p2 x2 y2 m) h.6
line-same n (Emits c i e code k) (Emits c2 i2 e2 code2 k2) h =
    let emits : ℕ → ℕ → ℕ → List ℕ → ℕ → List ℕ = λ c i e code k.
    told (codes "emits") (n + c) (decimal i ∷ decimal e ∷ code ∷ decimal k ∷ []) in
    ap (λ m. emits m i e code.now k) h.0 ∙ ap (λ m. emits c2 m e code.now k) h.1 ∙ ap (λ m. emits c2 i2 m code.now k) h.2
    ∙ ap (λ w. emits c2 i2 e2 w k) h.3 ∙ ap (λ m. emits c2 i2 e2 code2.now m) h.4
line-same n (Code c rule code k) (Code c2 rule2 code2 k2) h =
    ap (λ m. told (codes "code") (n + m) (rule.now ∷ code.now ∷ decimal k ∷ [])) h.0 ∙ ap (λ w. told (codes "code") (n + c2) (w ∷ code.now ∷ decimal k ∷ [])) h.1
    ∙ ap (λ w. told (codes "code") (n + c2) (rule2.now ∷ w ∷ decimal k ∷ [])) h.2 ∙ ap (λ m. told (codes "code") (n + c2) (rule2.now ∷ code2.now ∷ decimal m ∷ [])) h.3
line-same n (Close c k a b d) (Close c2 k2 a2 b2 d2) h =
    ap (λ m. told (codes "close") (n + m) (decimal k ∷ decimal a ∷ decimal b ∷ decimal d ∷ [])) h.0
    ∙ ap (λ m. told (codes "close") (n + c2) (decimal m ∷ decimal a ∷ decimal b ∷ decimal d ∷ [])) h.1
    ∙ ap (λ m. told (codes "close") (n + c2) (decimal k2 ∷ decimal m ∷ decimal b ∷ decimal d ∷ [])) h.2
    ∙ ap (λ m. told (codes "close") (n + c2) (decimal k2 ∷ decimal a2 ∷ decimal m ∷ decimal d ∷ [])) h.3
    ∙ ap (λ m. told (codes "close") (n + c2) (decimal k2 ∷ decimal a2 ∷ decimal b2 ∷ decimal m ∷ [])) h.4
line-same n (End k p) (End k2 p2) h = ap (λ m. told (codes "end") m (decimal p ∷ [])) h.0 ∙ ap (λ m. told (codes "end") k2 (decimal m ∷ [])) h.1
line-same n r q h = absurd h

pub ends-same : (r q : Row) → SameRow r q → sums_of r ≡ sums_of q
ends-same (Open c k name) (Open c2 k2 name2) h = refl
ends-same (Line c i o name) (Line c2 i2 o2 name2) h = refl
ends-same (Part c i code k) (Part c2 i2 code2 k2) h = refl
ends-same (Engine c i e p x y k) (Engine c2 i2 e2 p2 x2 y2 k2) h = refl
ends-same (Emits c i e code k) (Emits c2 i2 e2 code2 k2) h = refl
ends-same (Code c rule code k) (Code c2 rule2 code2 k2) h = refl
ends-same (Close c k a b d) (Close c2 k2 a2 b2 d2) h = refl
ends-same (End k p) (End k2 p2) h =
    ap (λ m. sums_of (End m p)) h.0 ∙ ap (λ m. sums_of (End k2 m)) h.1
ends-same r q h = absurd h
