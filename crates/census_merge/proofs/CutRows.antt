-- Rows cut by the lines that they are written as.
use Rattle.std.proofs.Common.{◌≡◌, ℕ, ◌<◌, ◌^◌, List, [], ◌∷◌, ◌++◌, map, codes, decimal, bytes_eq, true, false, ap, ◌∙◌, sym, refl, append_assoc}
use Rattle.std.specs.List.{AllByRecursion as Each}
use Rattle.std.proofs.lemmas.Fmt.{decimal_injective}
use Rattle.census_readback.specs.Texts.{AllLines}
use Rattle.census_readback.proofs.Feeds.{one-line}
use Rattle.census_rows.specs.declared.row.Row.{Row}
use Rattle.census_rows.specs.declared.row.Row.TheVariants.{Open, Line, Part, Engine, Emits, Code, Close, End}
use Rattle.census_rows.specs.Lines.{IsRow, Spelling, line_of, row_text, spelling, text_of}
use Rattle.census_merge.proofs.Named.{IsCut}
use Rattle.census_merge.proofs.Parsed.{end-cut, parse, row-parsed}

pub isnt-empty : (a x : List ℕ) → [] ≡ a ++ 10 ∷ x → ⊥
isnt-empty [] x e = absurd (cc)
isnt-empty (c ∷ a) x e = absurd (cc)

small-number : (row : Row) → IsRow row → (spelling row).number < 2 ^ 64
small-number (Open collection patterns name) h = h.0
small-number (Line collection pattern outcome name) h = h.0
small-number (Part collection pattern code count) h = h.0
small-number (Engine collection pattern number period dx dy count) h = h.0
small-number (Emits collection pattern engine code count) h = h.0
small-number (Code collection rule code count) h = h.0
small-number (Close collection patterns resolved unresolved refused) h = h.0
small-number (End collections patterns) h = h.0

-- a row that has the text of a row that can be cut is spelled as that row
pub same-spelling : (row told : Row) → IsRow row → IsCut told → row_text row ≡ row_text told → spelling row ≡ spelling told
same-spelling row told h k e =
    let items : (spelling row).word ∷ decimal (spelling row).number ∷ (spelling row).fields ≡ (spelling told).word ∷ decimal (spelling told).number ∷ (spelling told).fields =
    sym (row-parsed row h) ∙ ap parse e ∙ k.0.parsed in
    let words : (spelling row).word ≡ (spelling told).word = cc in
    let numbers : decimal (spelling row).number ≡ decimal (spelling told).number = cc in
    let fields : (spelling row).fields ≡ (spelling told).fields = cc in
    let same = decimal_injective (spelling row).number (spelling told).number (small-number row h) k.1 numbers in
    λ i. record { word = words i; number = same i; fields = fields i }

-- a first line and what follows it
pub split : (row : Row) (text : List ℕ) → line_of row ++ text ≡ row_text row ++ 10 ∷ text
split row text = append_assoc (row_text row) (10 ∷ []) text

record RowCut (told : Row) (rows : List Row) (more : List ℕ) : Type 0 where
  row : Row
  rest : List Row
  whole : rows ≡ row ∷ rest
  is : IsRow row
  spelled : spelling row ≡ spelling told
  lines : AllLines rest
  left : text_of rest ≡ more

cut-row : (told : Row) → IsCut told → (rows : List Row) (more : List ℕ) → AllLines rows → text_of rows ≡ line_of told ++ more → RowCut told rows more
cut-row told k [] more each e = absurd (isnt-empty (row_text told) more (e ∙ split told more))
cut-row told k (row ∷ rows) more each e =
    let two = one-line (row_text row) (row_text told) (text_of rows) more each.0.1 k.0.flat (sym (split row (text_of rows)) ∙ e ∙ split told more) in
    record {
      row = row;
      rest = rows;
      whole = refl;
      is = each.0.0;
      spelled = same-spelling row told each.0.0 k two.0;
      lines = each.1;
      left = two.1;
    }

pub record RowsCut (told rows : List Row) (more : List ℕ) : Type 0 where
  pub body : List Row
  pub rest : List Row
  pub whole : rows ≡ body ++ rest
  pub spelled : map spelling body ≡ map spelling told
  pub lines : AllLines rest
  pub left : text_of rest ≡ more

pub cut-rows : (told : List Row) → Each IsCut told → (rows : List Row) (more : List ℕ) → AllLines rows → text_of rows ≡ text_of told ++ more → RowsCut told rows more
cut-rows [] k rows more each e = record { body = []; rest = rows; whole = refl; spelled = refl; lines = each; left = e }
cut-rows (t ∷ told) k rows more each e =
    let one = cut-row t k.0 rows (text_of told ++ more) each (e ∙ append_assoc (line_of t) (text_of told) more) in
    let next = cut-rows told k.1 one.rest more one.lines one.left in
    record {
      body = one.row ∷ next.body;
      rest = next.rest;
      whole = one.whole ∙ ap (λ w. one.row ∷ w) next.whole;
      spelled = λ i. one.spelled i ∷ next.spelled i;
      lines = next.lines;
      left = next.left;
    }

-- ---- the last row

isnt-end : (s : Spelling) (m n : ℕ) → s ≡ spelling (End m n) → bytes_eq s.word (codes "end") ≡ false → ⊥
isnt-end s m n e other = let ends : false ≡ true = sym other ∙ ap (λ (t : Spelling). bytes_eq t.word (codes "end")) e in absurd (cc)

last-row : (m n : ℕ) (row : Row) → n < 2 ^ 64 → IsRow row → spelling row ≡ spelling (End m n) → row ≡ End m n
last-row m n (Open collection patterns name) b h e = absurd (isnt-end (spelling (Open collection patterns name)) m n e refl)
last-row m n (Line collection pattern outcome name) b h e = absurd (isnt-end (spelling (Line collection pattern outcome name)) m n e refl)
last-row m n (Part collection pattern code count) b h e = absurd (isnt-end (spelling (Part collection pattern code count)) m n e refl)
last-row m n (Engine collection pattern number period dx dy count) b h e =
    absurd (isnt-end (spelling (Engine collection pattern number period dx dy count)) m n e refl)
last-row m n (Emits collection pattern engine code count) b h e = absurd (isnt-end (spelling (Emits collection pattern engine code count)) m n e refl)
last-row m n (Code collection rule code count) b h e = absurd (isnt-end (spelling (Code collection rule code count)) m n e refl)
last-row m n (Close collection patterns resolved unresolved refused) b h e =
    absurd (isnt-end (spelling (Close collection patterns resolved unresolved refused)) m n e refl)
last-row m n (End collections patterns) b h e =
    let one : collections ≡ m = ap (λ (s : Spelling). s.number) e in
    let fields : decimal patterns ∷ [] ≡ decimal n ∷ [] = ap (λ (s : Spelling). s.fields) e in
    let second : decimal patterns ≡ decimal n = cc in
    let two = decimal_injective patterns n h.1 b second in
    λ i. End (one i) (two i)

pub record EndCut (m n : ℕ) (rows : List Row) (more : List ℕ) : Type 0 where
  pub rest : List Row
  pub whole : rows ≡ End m n ∷ rest
  pub lines : AllLines rest
  pub left : text_of rest ≡ more

pub cut-end : (m n : ℕ) (rows : List Row) (more : List ℕ) → m < 2 ^ 64 → n < 2 ^ 64 → AllLines rows → text_of rows ≡ line_of (End m n) ++ more → EndCut m n rows more
cut-end m n rows more a b each e =
    let one = cut-row (End m n) (end-cut m n, a) rows more each e in
    record {
      rest = one.rest;
      whole = one.whole ∙ ap (λ r. r ∷ one.rest) (last-row m n one.row b one.is one.spelled);
      lines = one.lines;
      left = one.left;
    }
