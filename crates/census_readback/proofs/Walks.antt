-- How far the rows of a text have been looked at.
use Rattle.std.proofs.Common.{◌≡◌, ◌≢◌, ℕ, ◌+◌, ◌≤◌, Bool, true, false, eqb, inl, inr, Some, None as Nothing, List, [], ◌∷◌, ◌++◌, length, length-append, append_assoc, ap, ◌∙◌, sym, refl, arith, subst}
use Rattle.std.proofs.lemmas.List.{append-nil}
use Rattle.std.proofs.lemmas.Bool.{eqb-true}
use Rattle.std.specs.Prelude.{◌⊎◌, MatchOption, if◌then◌else◌}
use Rattle.census_rows.specs.declared.row.Row.{Row}
use Rattle.census_rows.specs.Lines.{SameRow, row_text, line_of, text_of}
use Rattle.census_rows.proofs.Texts.{text-append}
use Rattle.census_readback.specs.Texts.{AllLines, Ends, IsLine, IsStuck, SameRows}
use Rattle.census_readback.specs.Steps.{Reading, first_stray, initial_reading, step}
use Rattle.census_readback.specs.Shapes.{AreReports, AreWhole, all_rows}
use Rattle.census_readback.specs.Told.{Told, nothing_told, told_after}
use Rattle.census_readback.specs.Reports.{IsFault, ReadsAsReports}
use Rattle.census_readback.proofs.Alike.{stepping, stray-same, telling}
use Rattle.census_readback.proofs.Interleaved.{reports-complete, reports-sound}
use Rattle.census_readback.proofs.Reached.{Reached, reached-end, reached-more, reached-start, stuck-at-end}
use Rattle.census_readback.proofs.Rows.{lines-more, text-more}

-- ---- all rows that there are

pub record Passed (text rest : List ℕ) : Type 0 where
  pub done : List Row
  pub lines : AllLines done
  pub whole : text ≡ text_of done ++ rest
  pub all : (rows : List Row) (after : List ℕ) → AllLines rows → text ≡ text_of rows ++ after → IsStuck after → Reached rows after done rest

abbrev pub passed-start : (text : List ℕ) → Passed text text
passed-start text = record { done = []; lines = tt; whole = refl; all = λ rows after lines e stuck. reached-start rows after text lines e }

abbrev pub passed-more : (text rest : List ℕ) (row : Row) (behind : List ℕ) → Passed text rest → IsLine row → rest ≡ line_of row ++ behind
    → ((q : Row) (b : List ℕ) → IsLine q → rest ≡ line_of q ++ b → SameRow row q × (behind ≡ b)) → Passed text behind
passed-more text rest row behind p is e all = record {
  done = p.done ++ row ∷ [];
  lines = lines-more p.done row p.lines is;
  whole = text-more p.done row text rest behind p.whole e;
  all = λ rows after lines f stuck. reached-more rows after p.done rest row behind (p.all rows after lines f stuck) stuck is e all;
}

pub passed-end : (text rest : List ℕ) → Passed text rest → IsStuck rest → Ends text rest
passed-end text rest p stuck = record {
  rows = p.done;
  lines = p.lines;
  whole = p.whole;
  stuck = stuck;
  all = λ others after lines e apart. reached-end others after p.done rest (p.all others after lines e apart) stuck;
}

pub passed-whole : (text rest : List ℕ) (p : Passed text rest) → IsStuck rest → (e : Ends text rest) × (e.rows ≡ p.done)
unfolding passed-end
passed-whole text rest p stuck = (passed-end text rest p stuck, refl)

-- ---- lists of rows

pub lines-append : (xs ys : List Row) → AllLines xs → AllLines ys → AllLines (xs ++ ys)
lines-append [] ys h k = k
lines-append (x ∷ xs) ys h k = (h.0, lines-append xs ys h.1 k)

pub joined-append : (xs ys : List (List Row)) → all_rows (xs ++ ys) ≡ all_rows xs ++ all_rows ys
joined-append [] ys = refl
joined-append (x ∷ xs) ys = ap (λ z. x ++ z) (joined-append xs ys) ∙ sym (append_assoc x (all_rows xs) (all_rows ys))

whole-append : (xs ys : List (List Row)) → AreWhole xs → AreWhole ys → AreWhole (xs ++ ys)
whole-append [] ys first second = second
whole-append (x ∷ xs) ys first second = (first.0, whole-append xs ys first.1 second)

pub reports-append : (xs ys : List Row) → AreReports xs → AreReports ys → AreReports (xs ++ ys)
reports-append xs ys first second = record {
  reports = first.reports ++ second.reports;
  some = (let some = first.some in omega (arith, length-append first.reports second.reports));
  whole = ap (λ z. z ++ ys) first.whole ∙ ap (λ z. all_rows first.reports ++ z) second.whole ∙ sym (joined-append first.reports second.reports);
  each = whole-append first.reports second.reports first.each second.each;
}

same-append : (xs ys zs ws : List Row) → SameRows xs ys → SameRows zs ws → SameRows (xs ++ zs) (ys ++ ws)
same-append [] [] zs ws h k = k
same-append [] (y ∷ ys) zs ws h k = absurd h
same-append (x ∷ xs) [] zs ws h k = absurd h
same-append (x ∷ xs) (y ∷ ys) zs ws h k = (h.0, same-append xs ys zs ws h.1 k)

-- ---- rows that have been looked at

pub record Walked (text : List ℕ) (told : Told) (s : Reading) (number : ℕ) (rest : List ℕ) : Type 0 where
  pub passed : Passed text rest
  pub count : number ≡ length passed.done + 1
  pub same : (others : List Row) → first_stray nothing_told initial_reading 1 (passed.done ++ others) ≡ first_stray told s number others
  pub within : number + length rest ≤ length text + 1

pub walked-start : (text : List ℕ) (told : Told) (s : Reading) → told ≡ nothing_told → s ≡ initial_reading → Walked text told s 1 text
walked-start text told s e f = record {
  passed = passed-start text;
  count = refl;
  same = λ others. ap (λ t. first_stray t initial_reading 1 others) (sym e) ∙ ap (λ r. first_stray told r 1 others) (sym f);
  within = omega arith;
}

module _ (text : List ℕ) (told : Told) (s : Reading) (n : ℕ) (rest : List ℕ) (w : Walked text told s n rest) (row : Row) (behind : List ℕ)
    (is : IsLine row) (e : rest ≡ line_of row ++ behind) (all : (q : Row) (b : List ℕ) → IsLine q → rest ≡ line_of q ++ b → SameRow row q × (behind ≡ b)) where
  abbrev next : Passed text behind
  next = passed-more text rest row behind w.passed is e all

  on : (others : List Row) → first_stray nothing_told initial_reading 1 ((w.passed.done ++ row ∷ []) ++ others) ≡ telling s n row others (told_after told row)
  on others = ap (first_stray nothing_told initial_reading 1) (append_assoc w.passed.done (row ∷ []) others) ∙ w.same (row ∷ others)

  pub walked-more : (more : Told) (t : Reading) → told_after told row ≡ Some more → step s row ≡ Some t → Walked text more t (n + 1) behind
  walked-more more t tells goes = record {
    passed = next;
    count = (let size = length-append w.passed.done (row ∷ []) in omega (arith, size, w.count));
    same = λ others. on others ∙ ap (telling s n row others) tells ∙ ap (stepping more n others) goes;
    within =
        (let size : length rest ≡ length (line_of row) + length behind = ap length e ∙ length-append (line_of row) behind in
        let own : length (line_of row) ≡ length (row_text row) + 1 = length-append (row_text row) (10 ∷ []) in
        omega (arith, size, own, w.within));
  }

  module _ (end : List ℕ) (others : Ends behind end) where
    -- the row may not come here
    pub stray-fault : telling s n row others.rows (told_after told row) ≡ Some n → IsFault text n
    stray-fault stray = record {
      rows = (w.passed.done ++ row ∷ []) ++ others.rows;
      rest = end;
      lines = lines-append (w.passed.done ++ row ∷ []) others.rows next.lines others.lines;
      front = next.whole ∙ ap (λ t. text_of (w.passed.done ++ row ∷ []) ++ t) others.whole
          ∙ sym (append_assoc (text_of (w.passed.done ++ row ∷ [])) (text_of others.rows) end)
          ∙ ap (λ t. t ++ end) (sym (text-append (w.passed.done ++ row ∷ []) others.rows));
      stuck = others.stuck;
      first = subst (λ o. MatchOption o ((end ≢ []) × (n ≡ length ((w.passed.done ++ row ∷ []) ++ others.rows) + 1)) (λ number. n ≡ number)) (sym (on others.rows ∙ stray)) refl;
    }

    -- no report has such a row here
    pub no-stray : (rows : List Row) → ReadsAsReports rows text → telling s n row others.rows (told_after told row) ≡ Some n → ⊥
    no-stray rows reads stray =
        let reached = next.all rows [] reads.lines (reads.whole ∙ sym (append-nil (text_of rows))) stuck-at-end in
        let todo = others.all reached.todo [] reached.lines reached.left stuck-at-end in
        let alike : SameRows ((w.passed.done ++ row ∷ []) ++ others.rows) (reached.old ++ reached.todo) = same-append _ _ _ _ reached.same todo.0 in
        let none : first_stray nothing_told initial_reading 1 ((w.passed.done ++ row ∷ []) ++ others.rows) ≡ Nothing =
        stray-same nothing_told initial_reading 1 _ _ alike ∙ ap (first_stray nothing_told initial_reading 1) (sym reached.whole) ∙ reports-complete rows reads.shape in
        let some : Nothing ≡ Some n = sym none ∙ on others.rows ∙ stray in
        absurd (cc)

-- the row says what no report says there, or may not come there
pub stray : (told : Told) (s : Reading) (n : ℕ) (row : Row) (others : List Row) → (told_after told row ≡ Nothing) ⊎ (step s row ≡ Nothing)
    → telling s n row others (told_after told row) ≡ Some n
stray told s n row others (inl tells) = ap (telling s n row others) tells
stray told s n row others (inr goes) =
    elim (told_after told row) as (λ o. telling s n row others o ≡ Some n) [
      | Nothing ↦ refl
      | Some u ↦ ap (stepping u n others) goes
    ]

-- ---- the end

pub none-left : (xs : List ℕ) → eqb (length xs) 0 ≡ true → xs ≡ []
none-left [] h = refl
none-left (x ∷ xs) h = absurd (let e : length (x ∷ xs) ≡ 0 = eqb-true _ _ h in omega arith)

pub some-left : (xs : List ℕ) → eqb (length xs) 0 ≡ false → xs ≢ []
some-left xs h e = (let f : eqb (length xs) 0 ≡ true = ap (λ (ys : List ℕ). eqb (length ys) 0) e in absurd (cc))

module _ (text : List ℕ) (told : Told) (s : Reading) (n : ℕ) (rest : List ℕ) (w : Walked text told s n rest) (stuck : IsStuck rest) where
  last : first_stray nothing_told initial_reading 1 w.passed.done ≡ (if s.ended then Nothing else Some n)
  last = ap (first_stray nothing_told initial_reading 1) (sym (append-nil w.passed.done)) ∙ w.same []

  alike : (rows : List Row) → ReadsAsReports rows text → SameRows w.passed.done rows × (rest ≡ [])
  alike rows reads = reached-end rows [] w.passed.done rest (w.passed.all rows [] reads.lines (reads.whole ∙ sym (append-nil (text_of rows))) stuck-at-end) stuck

  none : (rows : List Row) → ReadsAsReports rows text → first_stray nothing_told initial_reading 1 w.passed.done ≡ Nothing
  none rows reads = stray-same nothing_told initial_reading 1 w.passed.done rows (alike rows reads).0 ∙ reports-complete rows reads.shape

  pub all-read : s.ended ≡ true → rest ≡ [] → (rows : List Row) × ReadsAsReports rows text
  all-read ended empty = (
    w.passed.done,
    record {
      lines = w.passed.lines;
      whole = w.passed.whole ∙ ap (λ t. text_of w.passed.done ++ t) empty ∙ append-nil (text_of w.passed.done);
      shape = reports-sound w.passed.done (last ∙ ap (λ (b : Bool). if b then Nothing else Some n) ended);
    },
  )

  -- the `end` row is missing
  pub open-fault : s.ended ≡ false → IsFault text n
  open-fault ended = record {
    rows = w.passed.done;
    rest = rest;
    lines = w.passed.lines;
    front = w.passed.whole;
    stuck = stuck;
    first = subst (λ o. MatchOption o ((rest ≢ []) × (n ≡ length w.passed.done + 1)) (λ number. n ≡ number)) (sym (last ∙ ap (λ (b : Bool). if b then Nothing else Some n) ended)) refl;
  }

  -- the line is no row
  pub line-fault : s.ended ≡ true → rest ≢ [] → IsFault text n
  line-fault ended more = record {
    rows = w.passed.done;
    rest = rest;
    lines = w.passed.lines;
    front = w.passed.whole;
    stuck = stuck;
    first = subst (λ o. MatchOption o ((rest ≢ []) × (n ≡ length w.passed.done + 1)) (λ number. n ≡ number)) (sym (last ∙ ap (λ (b : Bool). if b then Nothing else Some n) ended)) (more, w.count);
  }

  pub no-open : s.ended ≡ false → (rows : List Row) → ReadsAsReports rows text → ⊥
  no-open ended rows reads =
      let some : Nothing ≡ Some n = sym (none rows reads) ∙ last ∙ ap (λ (b : Bool). if b then Nothing else Some n) ended in
      absurd (cc)

  pub no-line : rest ≢ [] → (rows : List Row) → ReadsAsReports rows text → ⊥
  no-line more rows reads = more (alike rows reads).1
