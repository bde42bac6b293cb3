-- What is so of each kind of outcomes.
use Rattle.std.proofs.Common.{◌≡◌, ◌≤◌, ◌<◌, ℕ, List, [], ◌∷◌, ◌++◌, ap, codes, drop, get_or, length, refl, ◌∙◌, append_assoc, arith}
use Rattle.std.specs.Borrow.{Bor}
use Rattle.census_rows.specs.declared.row.Finding.{Finding}
use Rattle.census_rows.specs.declared.row.Finding.TheVariants as finding
use Rattle.census_rows.specs.declared.row.Outcome.{Outcome}
use Rattle.census_rows.specs.declared.row.Outcome.TheVariants.{Found, Bad}
use Rattle.census_rows.specs.Kinds.{finding_of_kind, kind_of, kinds, said, said_of, texts_of}
use Rattle.census_rows.specs.Lines.{fields_text, outcome_fields, HasNoBlank, EndsField}
use Rattle.census_rows.specs.Values.{numbers_of, unfolded, words_of}
use Rattle.census_rows.proofs.FieldTexts.{ends-behind}
use Rattle.census_rows.proofs.Blanks.{one-field}
use Rattle.census_rows.proofs.Signs.{read-folded}

-- letters are no blanks
found-plain : (f : Finding) → HasNoBlank (said_of f).word
found-plain (finding.Ok onset period dx dy code) = (λ e. omega arith, (λ e. omega arith, tt))
found-plain (finding.Ash onset objects) = (λ e. omega arith, (λ e. omega arith, (λ e. omega arith, tt)))
found-plain finding.Unresolved = (λ e. omega arith, (λ e. omega arith, (λ e. omega arith, (λ e. omega arith, tt))))
found-plain (finding.Large generation) =
    (λ e. omega arith, (λ e. omega arith, (λ e. omega arith, (λ e. omega arith, (λ e. omega arith, tt)))))
found-plain (finding.Grows engines) =
    (λ e. omega arith, (λ e. omega arith, (λ e. omega arith, (λ e. omega arith, (λ e. omega arith, tt)))))

pub word-plain : (o : Outcome) → HasNoBlank (said o).word
word-plain (Found rule population f) = found-plain f
word-plain (Bad fault) = (λ e. omega arith, (λ e. omega arith, (λ e. omega arith, tt)))

abbrev first : List ℕ → ℕ
first [] = 0
first (byte ∷ bytes) = byte

-- what was found isn't said by the word of a fault
pub found-not-bad : (f : Finding) → (said_of f).word ≡ codes "bad" → ⊥
found-not-bad (finding.Ok onset period dx dy code) e = let no : 111 ≡ 98 = ap first e in omega (arith, no)
found-not-bad (finding.Ash onset objects) e = let no : 97 ≡ 98 = ap first e in omega (arith, no)
found-not-bad finding.Unresolved e = let no : 110 ≡ 98 = ap first e in omega (arith, no)
found-not-bad (finding.Large generation) e = let no : 108 ≡ 98 = ap first e in omega (arith, no)
found-not-bad (finding.Grows engines) e = let no : 103 ≡ 98 = ap first e in omega (arith, no)

-- the kinds have the numbers from 1 to how many they are
pub kind-range : (f : Finding) → (1 ≤ kind_of f) × (kind_of f ≤ kinds)
kind-range (finding.Ok onset period dx dy code) = (omega arith, omega arith)
kind-range (finding.Ash onset objects) = (omega arith, omega arith)
kind-range finding.Unresolved = (omega arith, omega arith)
kind-range (finding.Large generation) = (omega arith, omega arith)
kind-range (finding.Grows engines) = (omega arith, omega arith)

-- a finding is that of its kind by its numbers and its word, whatever stands after these
pub finding-back : (f : Finding) (number : ℕ → ℕ) (word : Bor (List ℕ))
    → ((place : ℕ) → place < length (numbers_of (said_of f).fields) → number place ≡ get_or (numbers_of (said_of f).fields) place 0)
    → (0 < length (words_of (said_of f).fields) → word ≡ get_or (words_of (said_of f).fields) 0 word)
    → finding_of_kind (kind_of f) number word ≡ f
finding-back (finding.Ok onset period dx dy code) number word numbers words =
    let is0 : number 0 ≡ onset = numbers 0 (omega arith) in
    let is1 : number 1 ≡ period = numbers 1 (omega arith) in
    let is2 : unfolded (number 2) ≡ dx = ap unfolded (numbers 2 (omega arith)) ∙ read-folded dx in
    let is3 : unfolded (number 3) ≡ dy = ap unfolded (numbers 3 (omega arith)) ∙ read-folded dy in
    let is4 : word ≡ code = words (omega arith) in
    cc
finding-back (finding.Ash onset objects) number word numbers words =
    let is0 : number 0 ≡ onset = numbers 0 (omega arith) in
    let is1 : number 1 ≡ objects = numbers 1 (omega arith) in
    cc
finding-back finding.Unresolved number word numbers words = refl
finding-back (finding.Large generation) number word numbers words = ap finding.Large (numbers 0 (omega arith))
finding-back (finding.Grows engines) number word numbers words = ap finding.Grows (numbers 0 (omega arith))

-- a text of an outcome begins with its first word, and goes on with its other fields
pub first-word : (o : Outcome) (found rest after : List ℕ) → HasNoBlank found → EndsField rest → EndsField after
    → found ++ rest ≡ drop 1 (fields_text (outcome_fields o)) ++ after
    → (found ≡ (said o).word) × (rest ≡ fields_text (texts_of (said o).fields) ++ after)
first-word o found rest after plain ends ended e =
    let fields = texts_of (said o).fields in
    one-field found (said o).word rest (fields_text fields ++ after) plain (word-plain o) ends (ends-behind fields after ended)
    (e ∙ append_assoc (said o).word (fields_text fields) after)
