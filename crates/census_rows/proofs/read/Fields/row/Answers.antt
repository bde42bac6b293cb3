use Rattle.std.proofs.Common.{◌≡◌, ◌++◌, ◌∷◌, ◌∙◌, Bor, List, ℕ, [], IsTrue, ap, codes, decimal, refl, sym, true, arith}
use Rattle.std.proofs.lemmas.List.{append-nil}
use Rattle.std.specs.Fmt.{signed_decimal}
use Rattle.census_rows.specs.declared.row.Outcome.{Outcome}
use Rattle.census_rows.specs.declared.row.Row.{Row}
use Rattle.census_rows.specs.declared.row.Row.TheVariants.{Open, Line, Part, Engine, Emits, Code, Close, End}
use Rattle.census_rows.specs.Lines.{IsRow, SameRow, describes_collection, fields_text, row_text, HasNoBlank, EndsField, outcome_fields}
use Rattle.census_rows.proofs.FieldTexts.{behind-append, behind-one, fields-then}
use Rattle.census_rows.proofs.Blanks.{four, one-field}
use Rattle.census_rows.proofs.read.Fields.row.Goals as goal

-- a row that begins with none of five words describes a collection
kinds : (row : Row) (kind rest : List ℕ) → HasNoBlank kind → EndsField rest → kind ++ rest ≡ row_text row
    → (kind ≡ codes "line" → ⊥) → (kind ≡ codes "part" → ⊥) → (kind ≡ codes "end" → ⊥)
    → (kind ≡ codes "engine" → ⊥) → (kind ≡ codes "emits" → ⊥) → IsTrue (describes_collection row)
kinds (Open collection patterns name) kind rest plain ends e is_line is_part is_end is_engine is_emits = refl
kinds (Line collection pattern outcome name) kind rest plain ends e is_line is_part is_end is_engine is_emits =
    absurd (is_line (one-field kind (codes "line") rest
    (fields_text (decimal collection ∷ decimal pattern ∷ (outcome_fields outcome ++ name.now ∷ []))) plain
    (four 108 105 110 101 (λ e. omega arith) (λ e. omega arith) (λ e. omega arith) (λ e. omega arith)) ends refl e).0)
kinds (Part collection pattern word count) kind rest plain ends e is_line is_part is_end is_engine is_emits =
    absurd (is_part (one-field kind (codes "part") rest (fields_text (decimal collection ∷ decimal pattern ∷ word.now ∷ decimal count ∷ [])) plain
    (four 112 97 114 116 (λ e. omega arith) (λ e. omega arith) (λ e. omega arith) (λ e. omega arith)) ends refl e).0)
kinds (Engine collection pattern number period dx dy count) kind rest plain ends e is_line is_part is_end is_engine is_emits =
    absurd (is_engine (one-field kind (codes "engine") rest
    (fields_text (decimal collection ∷ decimal pattern ∷ decimal number ∷ decimal period ∷ signed_decimal dx ∷ signed_decimal dy ∷ decimal count ∷ [])) plain
    ((λ e. omega arith), ((λ e. omega arith), four 103 105 110 101 (λ e. omega arith) (λ e. omega arith) (λ e. omega arith) (λ e. omega arith))) ends refl e).0)
kinds (Emits collection pattern engine word count) kind rest plain ends e is_line is_part is_end is_engine is_emits =
    absurd (is_emits (one-field kind (codes "emits") rest
    (fields_text (decimal collection ∷ decimal pattern ∷ decimal engine ∷ word.now ∷ decimal count ∷ [])) plain
    ((λ e. omega arith), four 109 105 116 115 (λ e. omega arith) (λ e. omega arith) (λ e. omega arith) (λ e. omega arith)) ends refl e).0)
kinds (Code collection rule word count) kind rest plain ends e is_line is_part is_end is_engine is_emits = refl
kinds (Close collection patterns resolved unresolved refused) kind rest plain ends e is_line is_part is_end is_engine is_emits = refl
kinds (End collections patterns) kind rest plain ends e is_line is_part is_end is_engine is_emits =
    absurd (is_end (one-field kind (codes "end") rest (fields_text (decimal collections ∷ decimal patterns ∷ [])) plain
    ((λ e. omega arith), ((λ e. omega arith), ((λ e. omega arith), tt))) ends refl e).0)

pub returns-else-are_same-5-clause-all : goal.returns-else-are_same-5-clause-all
returns-else-are_same-5-clause-all c = λ row whole is plain ends e.
    c.row_of_collection.ensures.all row whole is
    (kinds row c.args.kind.now c.args.self.now.rest.now plain ends e
    (λ h. cc (c.are_same.ensures.no h, c.if-are_same.false))
    (λ h. cc (c.are_same-else-are_same.ensures.no h, c.if-are_same-2.false))
    (λ h. cc (c.are_same-else-are_same-2.ensures.no h, c.if-are_same-3.false))
    (λ h. cc (c.are_same-else-are_same-3.ensures.no h, c.if-are_same-4.false))
    (λ h. cc (c.are_same-else-are_same-4.ensures.no h, c.if-are_same-5.false))) plain ends e

-- the first byte of a word
abbrev first : List ℕ → ℕ
first [] = 0
first (byte ∷ bytes) = byte

-- a row that begins with `line` is a `line` line
line-read : (row : Row) (kind rest : List ℕ) → kind ≡ codes "line" → HasNoBlank kind → EndsField rest → kind ++ rest ≡ row_text row → (Q : Row → Type 0)
    → ((c i : ℕ) (outcome : Outcome) (name : Bor (List ℕ)) → rest ≡ fields_text (decimal c ∷ decimal i ∷ (outcome_fields outcome ++ name.now ∷ [])) → Q (Line c i outcome name)) → Q row
line-read (Open c n name) kind rest is plain ends e Q h =
    let same = (one-field kind (codes "open") rest (fields_text (decimal c ∷ decimal n ∷ name.now ∷ [])) plain
    (four 111 112 101 110 (λ e. omega arith) (λ e. omega arith) (λ e. omega arith) (λ e. omega arith)) ends refl e).0 in
    let no : 108 ≡ 111 = ap first (sym is ∙ same) in
    absurd (omega (arith, no))
line-read (Line c i outcome name) kind rest is plain ends e Q h =
    h c i outcome name
    (one-field kind (codes "line") rest (fields_text (decimal c ∷ decimal i ∷ (outcome_fields outcome ++ name.now ∷ []))) plain
    (four 108 105 110 101 (λ e. omega arith) (λ e. omega arith) (λ e. omega arith) (λ e. omega arith)) ends refl e).1
line-read (Part c i code k) kind rest is plain ends e Q h =
    let same = (one-field kind (codes "part") rest (fields_text (decimal c ∷ decimal i ∷ code.now ∷ decimal k ∷ [])) plain
    (four 112 97 114 116 (λ e. omega arith) (λ e. omega arith) (λ e. omega arith) (λ e. omega arith)) ends refl e).0 in
    let no : 108 ≡ 112 = ap first (sym is ∙ same) in
    absurd (omega (arith, no))
line-read (Engine c i m p x y k) kind rest is plain ends e Q h =
    let same = (one-field kind (codes "engine") rest (fields_text (decimal c ∷ decimal i ∷ decimal m ∷ decimal p ∷ signed_decimal x ∷ signed_decimal y ∷ decimal k ∷ [])) plain
    ((λ e. omega arith), ((λ e. omega arith), four 103 105 110 101 (λ e. omega arith) (λ e. omega arith) (λ e. omega arith) (λ e. omega arith))) ends refl e).0 in
    let no : 108 ≡ 101 = ap first (sym is ∙ same) in
    absurd (omega (arith, no))
line-read (Emits c i m code k) kind rest is plain ends e Q h =
    let same = (one-field kind (codes "emits") rest (fields_text (decimal c ∷ decimal i ∷ decimal m ∷ code.now ∷ decimal k ∷ [])) plain
    ((λ e. omega arith), four 109 105 116 115 (λ e. omega arith) (λ e. omega arith) (λ e. omega arith) (λ e. omega arith)) ends refl e).0 in
    let no : 108 ≡ 101 = ap first (sym is ∙ same) in
    absurd (omega (arith, no))
line-read (Code c rule code k) kind rest is plain ends e Q h =
    let same = (one-field kind (codes "code") rest (fields_text (decimal c ∷ rule.now ∷ code.now ∷ decimal k ∷ [])) plain
    (four 99 111 100 101 (λ e. omega arith) (λ e. omega arith) (λ e. omega arith) (λ e. omega arith)) ends refl e).0 in
    let no : 108 ≡ 99 = ap first (sym is ∙ same) in
    absurd (omega (arith, no))
line-read (Close c n a b d) kind rest is plain ends e Q h =
    let same = (one-field kind (codes "close") rest (fields_text (decimal c ∷ decimal n ∷ decimal a ∷ decimal b ∷ decimal d ∷ [])) plain
    ((λ e. omega arith), four 108 111 115 101 (λ e. omega arith) (λ e. omega arith) (λ e. omega arith) (λ e. omega arith)) ends refl e).0 in
    let no : 108 ≡ 99 = ap first (sym is ∙ same) in
    absurd (omega (arith, no))
line-read (End n k) kind rest is plain ends e Q h =
    let same = (one-field kind (codes "end") rest (fields_text (decimal n ∷ decimal k ∷ [])) plain
    ((λ e. omega arith), ((λ e. omega arith), ((λ e. omega arith), tt))) ends refl e).0 in
    let no : 108 ≡ 101 = ap first (sym is ∙ same) in
    absurd (omega (arith, no))

pub returns-then-are_same-clause-sound : goal.returns-then-are_same-clause-sound
returns-then-are_same-clause-sound c = λ whole.
    let named = c.name.ensures.sound whole in
    let found = c.outcome.ensures.sound named.0 in
    let second = c.number-then-are_same.ensures.sound found.0 in
    let first = c.number.ensures.sound second.0 in
    let texts = fields-then (outcome_fields c.outcome.result) (c.name.result.now ∷ []) _ _ found.2 (named.1 ∙ behind-one c.name.result.now) in
    let kind = c.are_same.ensures.yes c.if-are_same.true in (
      first.0,
      (first.1, second.1, found.1),
      (λ i. kind i ++ first.2 i)
          ∙ ap (λ w. codes "line" ++ (32 ∷ decimal c.number.result ++ w)) (second.2 ∙ ap (λ w. 32 ∷ decimal c.number-then-are_same.result ++ w) texts)
          ∙ sym (append-nil (row_text (Line c.number.result c.number-then-are_same.result c.outcome.result c.name.result)))
          ∙ ap (λ w. row_text (Line c.number.result c.number-then-are_same.result c.outcome.result c.name.result) ++ w) (sym named.2),
    )

pub returns-then-are_same-clause-all : goal.returns-then-are_same-clause-all
returns-then-are_same-clause-all c = λ row whole is plain ends e.
    line-read row c.args.kind.now c.args.self.now.rest.now (c.are_same.ensures.yes c.if-are_same.true) plain ends e
    (λ row. IsRow row → (c.name.new.self.whole ≡ true) × SameRow (Line c.number.result c.number-then-are_same.result c.outcome.result c.name.result) row × (c.name.new.self.rest.now ≡ []))
    (λ n i outcome name split is.
    let more = outcome_fields outcome ++ name.now ∷ [] in
    let one = c.number.ensures.all n (fields_text (decimal i ∷ more)) whole is.0 refl split in
    let two = c.number-then-are_same.ensures.all i (fields_text more) one.0 is.1 refl one.2 in
    let three = c.outcome.ensures.all outcome (fields_text (name.now ∷ [])) two.0 is.2 refl (two.2 ∙ behind-append (outcome_fields outcome) (name.now ∷ [])) in
    let four = c.name.ensures.all name.now three.0 (three.2 ∙ sym (behind-one name.now)) in
    (four.0, (one.1, two.1, three.1, four.1), four.2))
    is
