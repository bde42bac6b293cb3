-- Rows whose lines are at the start of a report are spelled as its first rows.
use Rattle.std.proofs.Common.{◌≡◌, ℕ, ◌<◌, ◌^◌, true, false, List, [], ◌∷◌, ◌++◌, map, ap, ◌∙◌, sym, refl, append_assoc}
use Rattle.std.specs.List.{AllByRecursion as Each}
use Rattle.census_merge.specs.Kept.{is_end}
use Rattle.census_readback.specs.Steps.{patterns_opened}
use Rattle.census_readback.specs.Texts.{AllLines, HasNoFeed}
use Rattle.census_rows.specs.declared.row.Row.{Row}
use Rattle.census_rows.specs.Lines.{IsRow, line_of, row_text, spelling, text_of}
use Rattle.census_readback.proofs.Feeds.{one-line}
use Rattle.census_merge.proofs.CutRows.{same-spelling, split}
use Rattle.census_merge.proofs.Named.{IsCut}
use Rattle.census_merge.proofs.CutsLemmas.Spelled.{same-end, same-opened}

pub record Same (row told : Row) (text more : List ℕ) : Type 0 where
  pub spelled : spelling row ≡ spelling told
  pub left : text ≡ more

pub same-row : (row told : Row) (rows : List Row) (rest more : List ℕ) → IsRow row × HasNoFeed (row_text row) → IsCut told
    → text_of (row ∷ rows) ++ rest ≡ line_of told ++ more → Same row told (text_of rows ++ rest) more
same-row row told rows rest more h k e =
    let two = one-line (row_text row) (row_text told) (text_of rows ++ rest) more h.1 k.0.flat
    (sym (split row (text_of rows ++ rest)) ∙ sym (append_assoc (line_of row) (text_of rows) rest) ∙ e ∙ split told more) in
    record { spelled = same-spelling row told h.0 k two.0; left = two.1 }

abbrev pub IsFew : Row → Type 0
IsFew row = patterns_opened row < 2 ^ 64

-- no row ends a report
abbrev pub NoneEnds : List Row → Type 0
NoneEnds rows = Each (λ row. is_end row ≡ false) rows

-- the rows are spelled as the first of the rows told
pub record FrontCut (told rows : List Row) : Type 0 where
  pub front : List Row
  pub back : List Row
  pub whole : told ≡ front ++ back
  pub spelled : map spelling rows ≡ map spelling front
  pub opened : map patterns_opened rows ≡ map patterns_opened front

pub cut-front : (last : Row) → IsCut last → is_end last ≡ true → (told : List Row) → Each IsCut told → Each IsFew told
    → (rows : List Row) (rest more : List ℕ) → AllLines rows → NoneEnds rows → text_of rows ++ rest ≡ text_of told ++ (line_of last ++ more) → FrontCut told rows
cut-front last cut ending told each few [] rest more lines none e = record { front = []; back = told; whole = refl; spelled = refl; opened = refl }
cut-front last cut ending [] each few (row ∷ rows) rest more lines none e =
    let one = same-row row last rows rest more lines.0 cut e in
    let clash : false ≡ true = sym none.0 ∙ same-end row last one.spelled ∙ ending in
    absurd (cc)
cut-front last cut ending (t ∷ told) each few (row ∷ rows) rest more lines none e =
    let behind = text_of told ++ (line_of last ++ more) in
    let one = same-row row t rows rest behind lines.0 each.0 (e ∙ append_assoc (line_of t) (text_of told) (line_of last ++ more)) in
    let next = cut-front last cut ending told each.1 few.1 rows rest more lines.1 none.1 one.left in
    let opens = same-opened row t lines.0.0 few.0 one.spelled in
    record {
      front = t ∷ next.front;
      back = next.back;
      whole = ap (λ w. t ∷ w) next.whole;
      spelled = λ i. one.spelled i ∷ next.spelled i;
      opened = λ i. opens i ∷ next.opened i;
    }
