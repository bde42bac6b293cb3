-- Rows are read as they were put.
use Rattle.std.proofs.Common.{◌≡◌, ℕ, zero, suc, ◌+◌, ◌<◌, ◌≤◌, ◌^◌, List, [], ◌∷◌, ◌++◌, ap, ◌∙◌, refl, subst, arith, length, get_or, append_assoc, take}
use Rattle.census_rows.specs.declared.row.Finding.{Finding}
use Rattle.census_rows.specs.declared.row.Outcome.TheVariants.{Found, Bad}
use Rattle.census_rows.specs.declared.row.Row.{Row}
use Rattle.census_rows.specs.declared.row.Row.TheVariants.{Open, Line, Part, Engine, Emits, Code, Close, End}
use Rattle.census_rows.specs.Kinds.{kind_of, kinds, said_of}
use Rattle.census_rows.specs.Values.{folded, numbers_of, unfolded, words_of}
use Rattle.census_rows.proofs.EachKind.{finding-back, kind-range}
use Rattle.census_rows.proofs.Signs.{read-folded}
use Rattle.census_rows.specs.Store.Numbers.{number_in, number_bytes, numbers_bytes}
use Rattle.census_rows.specs.Store.Packed.{Text, Packed, behind_numbers, behind_texts, finding_of, pack, packed, number_at, row_of, text_at}
use Rattle.census_rows.proofs.StoreLemmas.Coded.{read-pushed}

-- numbers that fit 64 bits
abbrev pub Small : List ℕ → Type 0
Small numbers = (i : ℕ) → get_or numbers i 0 < 2 ^ 64

pub read-first : (n : ℕ) (bytes rest : List ℕ) → n < 2 ^ 64 → number_in ((number_bytes n ++ bytes) ++ rest) ≡ (n, bytes ++ rest)
read-first n bytes rest small = ap number_in (append_assoc (number_bytes n) bytes rest) ∙ read-pushed n (bytes ++ rest) small

numbers-read : (numbers rest : List ℕ) → Small numbers → (place : ℕ) → place < length numbers → number_at place (numbers_bytes numbers ++ rest) ≡ get_or numbers place 0
numbers-read [] rest small place less = absurd (omega arith)
numbers-read (n ∷ numbers) rest small zero less = ap (λ w. w.0) (read-first n (numbers_bytes numbers) rest (small 0))
numbers-read (n ∷ numbers) rest small (suc place) less =
    ap (λ w. number_at place w.1) (read-first n (numbers_bytes numbers) rest (small 0)) ∙ numbers-read numbers rest (λ i. small (suc i)) place (omega arith)

-- the first of some texts stands first, whatever stands after them
first-of : (nothing : Text) (words others : List Text) → 0 < length words → text_at nothing 0 (words ++ others) ≡ get_or words 0 (text_at nothing 0 (words ++ others))
first-of nothing [] others some = absurd (omega arith)
first-of nothing (word ∷ words) others some = refl

four : (numbers : List ℕ) → length numbers ≡ 4 → get_or numbers 0 0 ∷ get_or numbers 1 0 ∷ get_or numbers 2 0 ∷ get_or numbers 3 0 ∷ [] ≡ numbers
four (a ∷ b ∷ c ∷ d ∷ []) is = refl
four numbers is = absurd (omega arith)

-- a row of a pattern as its kind, the numbers and the words of what was found of it
pub packed-found : (collection pattern population : ℕ) (rule name : Text) (f : Finding) (kind count : ℕ) (numbers : List ℕ) (words : List Text)
    → kind ≡ kind_of f → length numbers ≡ 4 → take count numbers ≡ numbers_of (said_of f).fields → words ≡ words_of (said_of f).fields
    → packed (Line collection pattern (Found rule population f) name)
    ≡ pack kind (take (3 + count) (collection ∷ pattern ∷ population ∷ get_or numbers 0 0 ∷ get_or numbers 1 0 ∷ get_or numbers 2 0 ∷ get_or numbers 3 0 ∷ [])) (rule ∷ name ∷ words)
packed-found collection pattern population rule name f kind count numbers words is long counted told =
    let more : 3 + count ≡ suc (suc (suc count)) = omega arith in
    let front = ap (λ w. take (3 + count) (collection ∷ pattern ∷ population ∷ w)) (four numbers long) ∙ ap (λ k. take k (collection ∷ pattern ∷ population ∷ numbers)) more
    ∙ ap (λ w. collection ∷ pattern ∷ population ∷ w) counted in
    cc

-- the kinds of findings are the tags of no other rows
line-read : (nothing : Text) (kind : ℕ) (bytes : List ℕ) (texts : List Text) → (1 ≤ kind) × (kind ≤ kinds)
    → row_of nothing kind bytes texts ≡ Line (number_at 0 bytes) (number_at 1 bytes) (Found (text_at nothing 0 texts) (number_at 2 bytes) (finding_of nothing kind (behind_numbers 3 bytes) (behind_texts 2 texts))) (text_at nothing 1 texts)
line-read nothing kind bytes texts range = grind arith

-- a row is read as it was packed
abbrev Reads : Row → Packed → Type 0
Reads row p =
    (nothing : Text) (rest : List ℕ) (others : List Text) → Small p.numbers → row_of nothing p.tag (numbers_bytes p.numbers ++ rest) (p.texts ++ others) ≡ row

reads : (row : Row) → Reads row (packed row)
reads (Open collection patterns name) nothing rest others small =
    let numbers : List ℕ = (collection ∷ patterns ∷ []) in
    let bytes = numbers_bytes numbers ++ rest in
    let is0 : number_at 0 bytes ≡ collection = numbers-read numbers rest small 0 (omega arith) in
    let is1 : number_at 1 bytes ≡ patterns = numbers-read numbers rest small 1 (omega arith) in
    cc
reads (Part collection pattern code count) nothing rest others small =
    let numbers : List ℕ = (collection ∷ pattern ∷ count ∷ []) in
    let bytes = numbers_bytes numbers ++ rest in
    let is0 : number_at 0 bytes ≡ collection = numbers-read numbers rest small 0 (omega arith) in
    let is1 : number_at 1 bytes ≡ pattern = numbers-read numbers rest small 1 (omega arith) in
    let is2 : number_at 2 bytes ≡ count = numbers-read numbers rest small 2 (omega arith) in
    cc
reads (Engine collection pattern number period dx dy count) nothing rest others small =
    let numbers : List ℕ = (collection ∷ pattern ∷ number ∷ period ∷ folded dx ∷ folded dy ∷ count ∷ []) in
    let bytes = numbers_bytes numbers ++ rest in
    let is0 : number_at 0 bytes ≡ collection = numbers-read numbers rest small 0 (omega arith) in
    let is1 : number_at 1 bytes ≡ pattern = numbers-read numbers rest small 1 (omega arith) in
    let is2 : number_at 2 bytes ≡ number = numbers-read numbers rest small 2 (omega arith) in
    let is3 : number_at 3 bytes ≡ period = numbers-read numbers rest small 3 (omega arith) in
    let is4 : unfolded (number_at 4 bytes) ≡ dx = ap unfolded (numbers-read numbers rest small 4 (omega arith)) ∙ read-folded dx in
    let is5 : unfolded (number_at 5 bytes) ≡ dy = ap unfolded (numbers-read numbers rest small 5 (omega arith)) ∙ read-folded dy in
    let is6 : number_at 6 bytes ≡ count = numbers-read numbers rest small 6 (omega arith) in
    cc
reads (Emits collection pattern engine code count) nothing rest others small =
    let numbers : List ℕ = (collection ∷ pattern ∷ engine ∷ count ∷ []) in
    let bytes = numbers_bytes numbers ++ rest in
    let is0 : number_at 0 bytes ≡ collection = numbers-read numbers rest small 0 (omega arith) in
    let is1 : number_at 1 bytes ≡ pattern = numbers-read numbers rest small 1 (omega arith) in
    let is2 : number_at 2 bytes ≡ engine = numbers-read numbers rest small 2 (omega arith) in
    let is3 : number_at 3 bytes ≡ count = numbers-read numbers rest small 3 (omega arith) in
    cc
reads (Code collection rule code count) nothing rest others small =
    let numbers : List ℕ = (collection ∷ count ∷ []) in
    let bytes = numbers_bytes numbers ++ rest in
    let is0 : number_at 0 bytes ≡ collection = numbers-read numbers rest small 0 (omega arith) in
    let is1 : number_at 1 bytes ≡ count = numbers-read numbers rest small 1 (omega arith) in
    cc
reads (Close collection patterns resolved unresolved refused) nothing rest others small =
    let numbers : List ℕ = (collection ∷ patterns ∷ resolved ∷ unresolved ∷ refused ∷ []) in
    let bytes = numbers_bytes numbers ++ rest in
    let is0 : number_at 0 bytes ≡ collection = numbers-read numbers rest small 0 (omega arith) in
    let is1 : number_at 1 bytes ≡ patterns = numbers-read numbers rest small 1 (omega arith) in
    let is2 : number_at 2 bytes ≡ resolved = numbers-read numbers rest small 2 (omega arith) in
    let is3 : number_at 3 bytes ≡ unresolved = numbers-read numbers rest small 3 (omega arith) in
    let is4 : number_at 4 bytes ≡ refused = numbers-read numbers rest small 4 (omega arith) in
    cc
reads (End collections patterns) nothing rest others small =
    let numbers : List ℕ = (collections ∷ patterns ∷ []) in
    let bytes = numbers_bytes numbers ++ rest in
    let is0 : number_at 0 bytes ≡ collections = numbers-read numbers rest small 0 (omega arith) in
    let is1 : number_at 1 bytes ≡ patterns = numbers-read numbers rest small 1 (omega arith) in
    cc
reads (Line collection pattern (Found rule population found) name) nothing rest others small =
    let own = numbers_of (said_of found).fields in
    let words = words_of (said_of found).fields in
    let numbers : List ℕ = (collection ∷ pattern ∷ population ∷ own) in
    let bytes = numbers_bytes numbers ++ rest in
    let texts : List Text = (rule ∷ name ∷ words) ++ others in
    let is0 : number_at 0 bytes ≡ collection = numbers-read numbers rest small 0 (omega arith) in
    let is1 : number_at 1 bytes ≡ pattern = numbers-read numbers rest small 1 (omega arith) in
    let is2 : number_at 2 bytes ≡ population = numbers-read numbers rest small 2 (omega arith) in
    let back : finding_of nothing (kind_of found) (behind_numbers 3 bytes) (words ++ others) ≡ found =
    finding-back found (λ place. number_at (suc (suc (suc place))) bytes) (text_at nothing 0 (words ++ others))
    (λ place less. numbers-read numbers rest small (suc (suc (suc place))) (omega (arith, less))) (first-of nothing words others) in
    line-read nothing (kind_of found) bytes texts (kind-range found) ∙ cc
reads (Line collection pattern (Bad fault) name) nothing rest others small =
    let numbers : List ℕ = (collection ∷ pattern ∷ fault ∷ []) in
    let bytes = numbers_bytes numbers ++ rest in
    let is0 : number_at 0 bytes ≡ collection = numbers-read numbers rest small 0 (omega arith) in
    let is1 : number_at 1 bytes ≡ pattern = numbers-read numbers rest small 1 (omega arith) in
    let is2 : number_at 2 bytes ≡ fault = numbers-read numbers rest small 2 (omega arith) in
    cc

pub read-packed : (row : Row) (tag : ℕ) (numbers : List ℕ) (texts : List Text) (nothing : Text) (rest : List ℕ) (others : List Text)
    → packed row ≡ pack tag numbers texts → Small numbers → row_of nothing tag (numbers_bytes numbers ++ rest) (texts ++ others) ≡ row
read-packed row tag numbers texts nothing rest others is = subst (λ p. Small p.numbers → row_of nothing p.tag (numbers_bytes p.numbers ++ rest) (p.texts ++ others) ≡ row) is (reads row nothing rest others)
