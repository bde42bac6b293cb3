-- Texts that are merged one after another.
use Rattle.std.proofs.Common.{◌≡◌, ℕ, suc, ◌+◌, ◌<◌, ◌≤◌, true, Option, Some, None as Nothing, List, [], ◌∷◌, ◌++◌, drop, get_or, length, ap, subst, sym, refl, ◌∙◌, append-nil, drop-cons, arith}
use Rattle.std.specs.Prelude.{MatchOption}
use Rattle.std.specs.List.{AllZip}
use Rattle.std.proofs.lemmas.List.{drop_all}
use Rattle.watched.specs.Telling.{Sheet, TellsAfter}
use Rattle.watched.proofs.Telling.{tells_failed, tells_more, tells_none}
use Rattle.census_rows.specs.declared.row.Row.{Row}
use Rattle.census_rows.specs.declared.row.Row.TheVariants.{End}
use Rattle.census_rows.specs.Lines.{line_of, text_of}
use Rattle.census_rows.proofs.Texts.{text-append}
use Rattle.census_readback.specs.Limits.{count_limit}
use Rattle.census_readback.specs.Reports.{ReadsAsReports}
use Rattle.census_readback.specs.Shapes.{all_rows}
use Rattle.census_readback.specs.Texts.{AllLines}
use Rattle.census_merge.specs.declared.merging.Counted.{Counted}
use Rattle.census_merge.specs.declared.report_sums.Sums.{Sums}
use Rattle.census_merge.specs.Counting.{Counts, Exceeds}
use Rattle.census_merge.specs.Merged.{AreFew, merged_rows, numbered_on, renumbered_row}
use Rattle.census_merge.specs.Putting.{PutsRows}
use Rattle.census_merge.specs.Sums.{first_excess, no_sums, sums_in, sums_of, sums_plus, with_more}
use Rattle.census_merge.proofs.Few.{few-append, few-reports}
use Rattle.census_merge.proofs.Steps.{added, excess_from, excess_with, sums_from}
use Rattle.census_reports.specs.Rows.{AreRowsOf}

-- ---- rows after rows

few_rows : (parts : List (List Row)) (texts : List (List ℕ)) → AllZip ReadsAsReports parts texts → AreFew (all_rows parts)
few_rows [] [] each = tt
few_rows [] (t ∷ texts) each = absurd each
few_rows (p ∷ parts) [] each = absurd each
few_rows (p ∷ parts) (t ∷ texts) each = few-append p (all_rows parts) (few-reports p each.0.shape) (few_rows parts texts each.1)

pub few_of : (rows : List Row) (texts : List (List ℕ)) → AreRowsOf rows texts → AreFew rows
few_of rows texts are = subst AreFew (sym are.whole) (few_rows are.parts texts are.each)

few_split : (xs ys : List Row) → AreFew (xs ++ ys) → AreFew xs × AreFew ys
few_split [] ys h = (tt, h)
few_split (x ∷ xs) ys h = (let rest = few_split xs ys h.1 in ((h.0, rest.0), rest.1))

sums_append : (s : Sums) (xs ys : List Row) → sums_in s (xs ++ ys) ≡ sums_in (sums_in s xs) ys
sums_append s [] ys = refl
sums_append s (x ∷ xs) ys =
    elim (sums_of x) as (λ o. (elim o as (λ _. Sums) [ Nothing ↦ sums_in s (xs ++ ys) | Some more ↦ sums_in (sums_plus s more) (xs ++ ys) ])
    ≡ sums_in (elim o as (λ _. Sums) [ Nothing ↦ sums_in s xs | Some more ↦ sums_in (sums_plus s more) xs ]) ys) [
      | Nothing ↦ sums_append s xs ys
      | Some more ↦ sums_append (sums_plus s more) xs ys
    ]

numbered_append : (s : Sums) (xs ys : List Row) → numbered_on s.collections (xs ++ ys) ≡ numbered_on s.collections xs ++ numbered_on (sums_in s xs).collections ys
numbered_append s [] ys = refl
numbered_append s (x ∷ xs) ys =
    elim (sums_of x) as (λ o. (elim o as (λ _. List Row) [ Nothing ↦ renumbered_row s.collections x ∷ numbered_on s.collections (xs ++ ys) | Some more ↦ numbered_on (s.collections + more.collections) (xs ++ ys) ])
    ≡ (elim o as (λ _. List Row) [ Nothing ↦ renumbered_row s.collections x ∷ numbered_on s.collections xs | Some more ↦ numbered_on (s.collections + more.collections) xs ])
    ++ numbered_on (elim o as (λ _. Sums) [ Nothing ↦ sums_in s xs | Some more ↦ sums_in (sums_plus s more) xs ]).collections ys) [
      | Nothing ↦ ap (λ rs. renumbered_row s.collections x ∷ rs) (numbered_append s xs ys)
      | Some more ↦ numbered_append (sums_plus s more) xs ys
    ]

split_more : (n : ℕ) (s more : Sums) (xs ys : List Row)
    → ((m : ℕ) (t : Sums) → first_excess m t (xs ++ ys) ≡ Nothing → (first_excess m t xs ≡ Nothing) × (k : ℕ) × (first_excess k (sums_in t xs) ys ≡ Nothing))
    → (o : Option Sums) → with_more s more ≡ o → excess_with n (xs ++ ys) o ≡ Nothing
    → (excess_with n xs o ≡ Nothing) × (k : ℕ) × (first_excess k (sums_in (sums_plus s more) xs) ys ≡ Nothing)
split_more n s more xs ys on Nothing e h = absurd (cc)
split_more n s more xs ys on (Some all) e h =
    let split = on (n + 1) all h in
    (split.0, split.1, ap (λ (t : Sums). first_excess split.1 (sums_in t xs) ys) (sym (added s more all e)) ∙ split.2)

split_from : (n : ℕ) (s : Sums) (xs ys : List Row)
    → ((m : ℕ) (t : Sums) → first_excess m t (xs ++ ys) ≡ Nothing → (first_excess m t xs ≡ Nothing) × (k : ℕ) × (first_excess k (sums_in t xs) ys ≡ Nothing))
    → (o : Option Sums) → excess_from n s (xs ++ ys) o ≡ Nothing → (excess_from n s xs o ≡ Nothing) × (k : ℕ) × (first_excess k (sums_from s xs o) ys ≡ Nothing)
split_from n s xs ys on Nothing h = on n s h
split_from n s xs ys on (Some more) h = split_more n s more xs ys on (with_more s more) refl h

-- where none is too much, none of the first is, and none of the others
excess_split : (n : ℕ) (s : Sums) (xs ys : List Row) → first_excess n s (xs ++ ys) ≡ Nothing → (first_excess n s xs ≡ Nothing) × (k : ℕ) × (first_excess k (sums_in s xs) ys ≡ Nothing)
excess_split n s [] ys h = (refl, n, h)
excess_split n s (x ∷ xs) ys h = split_from n s xs ys (λ m t k. excess_split m t xs ys k) (sums_of x) h

-- ---- the rows of the texts from one on

-- the rows of the first text, and of the others
record First (todo : List Row) (text : List ℕ) (texts : List (List ℕ)) : Type 0 where
  own : List Row
  others : List Row
  whole : todo ≡ own ++ others
  lines : AllLines own
  text-is : text ≡ text_of own
  rest : AreRowsOf others texts

first_parts : (parts : List (List Row)) (todo : List Row) (text : List ℕ) (texts : List (List ℕ)) → todo ≡ all_rows parts → AllZip ReadsAsReports parts (text ∷ texts) → First todo text texts
first_parts [] todo text texts whole each = absurd each
first_parts (p ∷ parts) todo text texts whole each = record {
  own = p;
  others = all_rows parts;
  whole = whole;
  lines = each.0.lines;
  text-is = each.0.whole;
  rest = record { parts = parts; whole = refl; each = each.1 };
}

no_parts : (parts : List (List Row)) → AllZip ReadsAsReports parts [] → all_rows parts ≡ []
no_parts [] each = refl
no_parts (p ∷ parts) each = absurd each

drop_one : (texts : List (List ℕ)) (i : ℕ) (d : List ℕ) → i < length texts → drop i texts ≡ get_or texts i d ∷ drop (i + 1) texts
drop_one texts i d less = (let e : suc i ≡ i + 1 = omega arith in drop-cons texts i d less ∙ ap (λ k. get_or texts i d ∷ drop k texts) e)

first_at : (texts : List (List ℕ)) (i : ℕ) (d text : List ℕ) (todo : List Row) → i < length texts → text ≡ get_or texts i d → AreRowsOf todo (drop i texts) → First todo text (drop (i + 1) texts)
first_at texts i d text todo less e are =
    let here = subst (AreRowsOf todo) (drop_one texts i d less ∙ ap (λ t. t ∷ drop (i + 1) texts) (sym e)) are in
    first_parts here.parts todo text (drop (i + 1) texts) here.whole here.each

none_at : (texts : List (List ℕ)) (i : ℕ) (todo : List Row) → length texts ≤ i → AreRowsOf todo (drop i texts) → todo ≡ []
none_at texts i todo over are =
    let here = subst (AreRowsOf todo) (drop_all i texts over) are in
    here.whole ∙ no_parts here.parts here.each

-- ---- counting

pub record CountedRows (texts : List (List ℕ)) (i : ℕ) (c : Counted) (rows : List Row) : Type 0 where
  pub todo : List Row
  pub are : AreRowsOf todo (drop i texts)
  pub excess : first_excess 1 no_sums rows ≡ first_excess c.report c.sums todo

-- what is known once the texts before one are counted
pub record CountedTexts (texts : List (List ℕ)) (i : ℕ) (c : Counted) : Type 0 where
  pub few : c.sums.collections ≤ count_limit
  pub rows : (rows : List Row) → AreRowsOf rows texts → CountedRows texts i c rows

pub counted_none : (texts : List (List ℕ)) (c : Counted) → c ≡ record { sums = no_sums; report = 1 } → CountedTexts texts 0 c
counted_none texts c e = subst (λ (d : Counted). CountedTexts texts 0 d) (sym e) (record {
  few = omega arith;
  rows = λ rows are. record { todo = rows; are = are; excess = refl };
})

module _ (texts : List (List ℕ)) (i : ℕ) (c : Counted) (so : CountedTexts texts i c) where
  module _ (d text : List ℕ) (less : i < length texts) (e : text ≡ get_or texts i d) where
    pub counted_next : (all : Counted) → all.sums.collections ≤ count_limit → ((rows : List Row) → AllLines rows → text ≡ text_of rows → Counts c rows all) → CountedTexts texts (i + 1) all
    counted_next all few counts = record {
      few = few;
      rows = λ rows are.
          (let l = so.rows rows are in
          let f = first_at texts i d text l.todo less e l.are in
          record {
            todo = f.others;
            are = f.rest;
            excess = l.excess ∙ ap (first_excess c.report c.sums) f.whole ∙ (counts f.own f.lines f.text-is).excess f.others;
          });
    }

    pub counted_excess : (report : ℕ) → ((rows : List Row) → AllLines rows → text ≡ text_of rows → Exceeds c rows report) → (rows : List Row) → AreRowsOf rows texts
        → first_excess 1 no_sums rows ≡ Some report
    counted_excess report exceeds rows are =
        let l = so.rows rows are in
        let f = first_at texts i d text l.todo less e l.are in
        l.excess ∙ ap (first_excess c.report c.sums) f.whole ∙ exceeds f.own f.lines f.text-is f.others

  pub counted_all : length texts ≤ i → (rows : List Row) → AreRowsOf rows texts → first_excess 1 no_sums rows ≡ Nothing
  counted_all over rows are =
      let l = so.rows rows are in
      l.excess ∙ ap (first_excess c.report c.sums) (none_at texts i l.todo over l.are)

-- ---- putting

pub record PutTodo (texts : List (List ℕ)) (i : ℕ) (s : Sums) (rows : List Row) (a b : Sheet) : Type 0 where
  pub todo : List Row
  pub are : AreRowsOf todo (drop i texts)
  pub fewer : AreFew todo
  pub report : ℕ
  pub excess : first_excess report s todo ≡ Nothing
  pub sums : sums_in s todo ≡ sums_in no_sums rows
  pub told : (c : Sheet) → TellsAfter (text_of (numbered_on s.collections todo)) b c → TellsAfter (text_of (numbered_on 0 rows)) a c

-- what is known once the texts before one are put
pub record PutTexts (texts : List (List ℕ)) (i : ℕ) (s : Sums) (a b : Sheet) : Type 0 where
  pub few : s.collections ≤ count_limit
  pub rows : (rows : List Row) → AreRowsOf rows texts → AreFew rows → first_excess 1 no_sums rows ≡ Nothing → PutTodo texts i s rows a b

pub put_none : (texts : List (List ℕ)) (s : Sums) (a : Sheet) → s ≡ no_sums → PutTexts texts 0 s a a
put_none texts s a e = subst (λ (t : Sums). PutTexts texts 0 t a a) (sym e) (record {
  few = omega arith;
  rows = λ rows are fewer fits. record { todo = rows; are = are; fewer = fewer; report = 1; excess = fits; sums = refl; told = λ c h. h };
})

-- the `end` row too
whole_told : (rows : List Row) (a b c : Sheet) → TellsAfter (text_of (numbered_on 0 rows)) a b
    → TellsAfter (line_of (End (sums_in no_sums rows).collections (sums_in no_sums rows).patterns)) b c → TellsAfter (text_of (merged_rows rows)) a c
whole_told rows a b c body last =
    let end = End (sums_in no_sums rows).collections (sums_in no_sums rows).patterns in
    subst (λ t. TellsAfter t a c) (sym (text-append (numbered_on 0 rows) (end ∷ []) ∙ ap (λ w. text_of (numbered_on 0 rows) ++ w) (append-nil (line_of end))))
    (tells_more (text_of (numbered_on 0 rows)) (line_of end) a b c body last)

module _ (texts : List (List ℕ)) (i : ℕ) (s : Sums) (a b : Sheet) (p : PutTexts texts i s a b) where
  module _ (d text : List ℕ) (less : i < length texts) (e : text ≡ get_or texts i d) (after : Option Sums) (c : Sheet)
      (puts : (rows : List Row) (report : ℕ) → AllLines rows → text ≡ text_of rows → AreFew rows → first_excess report s rows ≡ Nothing → PutsRows s rows after b c) where
    -- the rows of the text are put, and whoever puts the others has put all
    own_put : (rows : List Row) (l : PutTodo texts i s rows a b) (f : First l.todo text (drop (i + 1) texts)) (last : Sheet)
        → TellsAfter (text_of (numbered_on s.collections f.own)) b c → TellsAfter (text_of (numbered_on (sums_in s f.own).collections f.others)) c last → TellsAfter (text_of (numbered_on 0 rows)) a last
    own_put rows l f last own h =
        let all = numbered_on s.collections f.own in
        let more = numbered_on (sums_in s f.own).collections f.others in
        l.told last (subst (λ t. TellsAfter t b last)
        (sym (ap (λ rs. text_of (numbered_on s.collections rs)) f.whole ∙ ap text_of (numbered_append s f.own f.others) ∙ text-append all more))
        (tells_more (text_of all) (text_of more) b c last own h))

    pub put_more : (all : Sums) → all.collections ≤ count_limit → after ≡ Some all → PutTexts texts (i + 1) all a c
    put_more all few is = record {
      few = few;
      rows = λ rows are fewer fits.
          (let l = p.rows rows are fewer fits in
          let f = first_at texts i d text l.todo less e l.are in
          let some = few_split f.own f.others (subst AreFew f.whole l.fewer) in
          let split = excess_split l.report s f.own f.others (ap (first_excess l.report s) (sym f.whole) ∙ l.excess) in
          let put = puts f.own l.report f.lines f.text-is some.0 split.0 in
          let sum : all ≡ sums_in s f.own = subst (λ (o : Option Sums). MatchOption o (c.failed ≡ true) (λ all. all ≡ sums_in s f.own)) is put.all in
          record {
            todo = f.others;
            are = f.rest;
            fewer = some.1;
            report = split.1;
            excess = ap (λ (t : Sums). first_excess split.1 t f.others) sum ∙ split.2;
            sums = ap (λ (t : Sums). sums_in t f.others) sum ∙ sym (sums_append s f.own f.others) ∙ ap (sums_in s) (sym f.whole) ∙ l.sums;
            told = λ last h. own_put rows l f last put.told (subst (λ (t : Sums). TellsAfter (text_of (numbered_on t.collections f.others)) c last) sum h);
          });
    }

    pub put_stopped : after ≡ Nothing → (rows : List Row) → AreRowsOf rows texts → AreFew rows → first_excess 1 no_sums rows ≡ Nothing → TellsAfter (text_of (merged_rows rows)) a c
    put_stopped is rows are fewer fits =
        let l = p.rows rows are fewer fits in
        let f = first_at texts i d text l.todo less e l.are in
        let some = few_split f.own f.others (subst AreFew f.whole l.fewer) in
        let split = excess_split l.report s f.own f.others (ap (first_excess l.report s) (sym f.whole) ∙ l.excess) in
        let put = puts f.own l.report f.lines f.text-is some.0 split.0 in
        let failed : c.failed ≡ true = subst (λ (o : Option Sums). MatchOption o (c.failed ≡ true) (λ all. all ≡ sums_in s f.own)) is put.all in
        whole_told rows a c c (own_put rows l f c put.told (tells_failed (text_of (numbered_on (sums_in s f.own).collections f.others)) c failed))
        (tells_failed (line_of (End (sums_in no_sums rows).collections (sums_in no_sums rows).patterns)) c failed)

  pub put_last : (c : Sheet) → length texts ≤ i → TellsAfter (line_of (End s.collections s.patterns)) b c → (rows : List Row) → AreRowsOf rows texts → AreFew rows → first_excess 1 no_sums rows ≡ Nothing
      → TellsAfter (text_of (merged_rows rows)) a c
  put_last c over end rows are fewer fits =
      let l = p.rows rows are fewer fits in
      let none = none_at texts i l.todo over l.are in
      let sum : s ≡ sums_in no_sums rows = sym (ap (sums_in s) none) ∙ l.sums in
      whole_told rows a b c (l.told b (subst (λ rs. TellsAfter (text_of (numbered_on s.collections rs)) b b) (sym none) (tells_none b)))
      (subst (λ (t : Sums). TellsAfter (line_of (End t.collections t.patterns)) b c) sum end)
