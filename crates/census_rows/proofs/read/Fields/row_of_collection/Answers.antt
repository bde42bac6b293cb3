use Rattle.std.proofs.Common.{◌≡◌, ◌++◌, ◌∷◌, List, ℕ, [], IsTrue, codes, decimal, refl, arith}
use Rattle.census_rows.specs.declared.row.Row.{Row}
use Rattle.census_rows.specs.declared.row.Row.TheVariants.{Open, Line, Part, Engine, Emits, Code, Close, End}
use Rattle.census_rows.specs.Lines.{describes_collection, fields_text, row_text, HasNoBlank, EndsField}
use Rattle.census_rows.proofs.Blanks.{four, one-field}
use Rattle.census_rows.proofs.read.Fields.row_of_collection.Goals as goal

-- each row that describes a collection begins with one of three words
kinds : (row : Row) (kind rest : List ℕ) → IsTrue (describes_collection row) → HasNoBlank kind → EndsField rest → kind ++ rest ≡ row_text row
    → (kind ≡ codes "open" → ⊥) → (kind ≡ codes "code" → ⊥) → (kind ≡ codes "close" → ⊥) → ⊥
kinds (Open collection patterns name) kind rest is plain ends e is_open is_code is_close =
    is_open (one-field kind (codes "open") rest (fields_text (decimal collection ∷ decimal patterns ∷ name.now ∷ [])) plain
    (four 111 112 101 110 (λ e. omega arith) (λ e. omega arith) (λ e. omega arith) (λ e. omega arith)) ends refl e).0
kinds (Line collection pattern outcome name) kind rest is plain ends e is_open is_code is_close = cc
kinds (Part collection pattern word count) kind rest is plain ends e is_open is_code is_close = cc
kinds (Engine collection pattern number period dx dy count) kind rest is plain ends e is_open is_code is_close = cc
kinds (Emits collection pattern engine word count) kind rest is plain ends e is_open is_code is_close = cc
kinds (Code collection rule word count) kind rest is plain ends e is_open is_code is_close =
    is_code (one-field kind (codes "code") rest (fields_text (decimal collection ∷ rule.now ∷ word.now ∷ decimal count ∷ [])) plain
    (four 99 111 100 101 (λ e. omega arith) (λ e. omega arith) (λ e. omega arith) (λ e. omega arith)) ends refl e).0
kinds (Close collection patterns resolved unresolved refused) kind rest is plain ends e is_open is_code is_close =
    is_close (one-field kind (codes "close") rest
    (fields_text (decimal collection ∷ decimal patterns ∷ decimal resolved ∷ decimal unresolved ∷ decimal refused ∷ [])) plain
    ((λ e. omega arith), four 108 111 115 101 (λ e. omega arith) (λ e. omega arith) (λ e. omega arith) (λ e. omega arith)) ends refl e).0
kinds (End collections patterns) kind rest is plain ends e is_open is_code is_close = cc

pub returns-else-are_same-3-clause-all : goal.returns-else-are_same-3-clause-all
returns-else-are_same-3-clause-all c = λ row whole is of_collection plain ends e.
    absurd (kinds row c.args.kind.now c.args.self.now.rest.now of_collection plain ends e
    (λ h. cc (c.are_same.ensures.no h, c.if-are_same.false))
    (λ h. cc (c.are_same-else-are_same.ensures.no h, c.if-are_same-2.false))
    (λ h. cc (c.are_same-else-are_same-2.ensures.no h, c.if-are_same-3.false)))
