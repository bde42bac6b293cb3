-- What is kept of a report that was cut says what is found of the collections that are closed.
use Rattle.std.proofs.Common.{◌≡◌, ◌≢◌, ℕ, zero, suc, ◌+◌, ◌-◌, ◌<◌, ◌≤◌, ◌^◌, true, false, cond, ltb, List, [], ◌∷◌, ◌++◌, map, length, slice_get, ap, ◌∙◌, sym, subst, refl, arith, append-nil}
use Rattle.std.specs.List.{AllByRecursion as Each}
use Rattle.std.proofs.lemmas.Bool.{ltb-false, ltb-true}
use Rattle.std.proofs.lemmas.Option.{slice_get_past}
use Rattle.census_format.specs.Lines.{Collection, sayings_count}
use Rattle.census_merge.specs.Kept.{closed_to, is_closed, is_end, kept_of, most, numbered, report_of, whole_count}
use Rattle.census_merge.proofs.Ranks.{most-is, number-least, number-of, number-rises, one}
use Rattle.census_format.specs.Reports.{IsReportOf, Owned, end_of, lines_of, section, section_if}
use Rattle.census_readback.specs.Shapes.{patterns_in, rows_of}
use Rattle.census_readback.specs.Texts.{AllLines}
use Rattle.census_rows.specs.declared.row.Row.{Row}
use Rattle.census_rows.specs.declared.row.Row.TheVariants.{End}
use Rattle.census_rows.specs.Lines.{spelling, text_of}
use Rattle.census_merge.specs.Telling.{Tells, rows_in}
use Rattle.census_merge.proofs.Grouped.{each-then, in-sections}
use Rattle.census_merge.proofs.Named.{IsCut, sections-cut}
use Rattle.census_merge.proofs.Parsed.{end-cut}
use Rattle.census_merge.proofs.Rowed.{end-is}
use Rattle.census_merge.proofs.Texts.{owned-rows, told-report}
use Rattle.census_merge.specs.Cuts.Closed.{closed_collections}
use Rattle.census_merge.proofs.CutsLemmas.Closing.{IsOnceClosed, closed-of, none-kept, none-of, sections-once}
use Rattle.census_merge.proofs.CutsLemmas.Folders.{closed-length, closed-past, folder-at, next-closed}
use Rattle.census_merge.proofs.CutsLemmas.Front.{FrontCut, IsFew, NoneEnds, cut-front}
use Rattle.census_merge.proofs.CutsLemmas.Groups.{kept-append, kept-grouped, kept_groups, lines-kept, lines-none}
use Rattle.census_merge.proofs.CutsLemmas.Moved.{section-numbered}
use Rattle.census_merge.proofs.CutsLemmas.Sections.{IsFewIn, IsOf, sections-few}
use Rattle.census_merge.proofs.CutsLemmas.Shares.{IsOfMany, owners-within, patterns-are, rows-own, rows-section, rows-within}
use Rattle.census_merge.proofs.CutsLemmas.Spelled.{same-closed, same-kept, same-patterns}
use Rattle.census_merge.specs.Lawful.{AreSayable}

none-ends : (rows : List Row) → whole_count rows ≡ 0 → NoneEnds rows
none-ends [] e = tt
none-ends (row ∷ rows) e =
    let w = whole_count rows in
    elim (ltb 0 w) as (λ v. ltb 0 w ≡ v → cond v (w + 1) (one (is_end row)) ≡ 0 → NoneEnds (row ∷ rows)) [
      | true ↦ λ some k. absurd (omega (arith, k))
      | false ↦ λ no k.
          (let least = ltb-false 0 w no in
          elim (is_end row) as (λ v. is_end row ≡ v → one v ≡ 0 → NoneEnds (row ∷ rows)) [
            | true ↦ λ ends j. absurd (omega (arith, j))
            | false ↦ λ lasts j. (lasts, none-ends rows (omega (arith, least)))
          ] refl k)
    ] refl e

each-front : (P : Row → Type 0) (xs ys : List Row) → Each P (xs ++ ys) → Each P xs
each-front P [] ys h = tt
each-front P (x ∷ xs) ys h = (h.0, each-front P xs ys h.1)

-- ---- the sections of the collections that are closed

module _ (all : List Row) (b : List Collection) (groups : List Owned) (sections : (c : ℕ) → lines_of c groups ≡ section b c) where
  abbrev closed : List Collection
  closed = closed_collections all 1 b

  closed-count : length closed ≡ closed_to all (length b)
  closed-count =
      let same : 0 + length b ≡ length b = omega arith in
      let whole = ap (closed_to all) same in
      let count = closed-length all 0 b in
      omega (arith, whole, count)

  section-one : (i d : ℕ) → 0 < d → is_closed all d ≡ true → closed_to all d ≡ i + 1 → lines_of (suc i) (kept_groups all groups) ≡ section_if (suc i) (slice_get closed i)
  section-one i zero low own is = absurd (omega arith)
  section-one i (suc j) low own is =
      let moves = map (map (numbered (suc i))) in
      let number : closed_to all (suc j) ≡ suc i = omega (arith, is) in
      let next = next-closed all j own in
      let counted : closed_to all j ≡ i + 0 = omega (arith, next, number) in
      let from : j ≡ 0 + j = omega arith in
      subst (λ n. lines_of n (kept_groups all groups) ≡ map (map (numbered n)) (lines_of (suc j) groups)) number (lines-kept all (suc j) own groups)
      ∙ ap moves (sections (suc j))
      ∙ section-numbered (suc i) (suc j) (slice_get b j)
      ∙ ap (section_if (suc i)) (sym (folder-at all 0 j i j b from counted own))

  past : (i : ℕ) → closed_to all (length b) ≤ i → lines_of (suc i) (kept_groups all groups) ≡ section_if (suc i) (slice_get closed i)
  past i high =
      let few : (l : Owned) → IsOf (length b) l.owner → is_closed all l.owner ≡ true → closed_to all l.owner ≢ suc i =
      λ l h e same. (let rises = number-rises all l.owner (length b) h.1 in omega (arith, rises, same)) in
      let none = lines-none all (suc i) groups
      (each-then (λ (l : Owned). IsOf (length b) l.owner) (λ (l : Owned). is_closed all l.owner ≡ true → closed_to all l.owner ≢ suc i) few groups (owners-within b groups sections)) in
      let count = closed-count in
      none ∙ ap (section_if (suc i)) (sym (slice_get_past closed i (omega (arith, count))))

  pub sections-kept : (c : ℕ) → lines_of c (kept_groups all groups) ≡ section closed c
  sections-kept zero =
      let least : (l : Owned) → IsOf (length b) l.owner → is_closed all l.owner ≡ true → closed_to all l.owner ≢ 0 =
      λ l h e same. (let some = number-least all l.owner h.0 e in omega (arith, some, same)) in
      lines-none all 0 groups
      (each-then (λ (l : Owned). IsOf (length b) l.owner) (λ (l : Owned). is_closed all l.owner ≡ true → closed_to all l.owner ≢ 0) least groups (owners-within b groups sections))
  sections-kept (suc i) =
      elim (ltb i (closed_to all (length b))) as (λ v. ltb i (closed_to all (length b)) ≡ v → lines_of (suc i) (kept_groups all groups) ≡ section_if (suc i) (slice_get closed i)) [
        | true ↦ λ e.
            (let n = number-of all (length b) i (ltb-true i (closed_to all (length b)) e) in
            section-one i n.collection n.low n.kept n.is)
        | false ↦ λ e. past i (ltb-false i (closed_to all (length b)) e)
      ] refl

  -- how many collections are closed, if each of them is one of the bundle's
  pub count-kept : length b ≤ most → ((c : ℕ) → is_closed all c ≡ true → IsOf (length b) c) → closed_to all most ≡ length closed
  count-kept few of =
      let n = length b in
      let none : (c : ℕ) → n < c → is_closed all c ≡ false = λ c less.
      elim (is_closed all c) as (λ v. is_closed all c ≡ v → v ≡ false) [
        | true ↦ λ e. absurd (let low = (of c e).1 in omega (arith, low, less))
        | false ↦ λ e. refl
      ] refl in
      let whole : most ≡ (most - n) + n = omega (arith, few) in
      ap (closed_to all) whole ∙ closed-past all n (most - n) none ∙ sym closed-count

-- ---- a report that was cut

module _ (b : List Collection) (rows : List Row) (rest : List ℕ) (bundle : AreSayable b) (each : AllLines rows)
    (report : IsReportOf b (text_of rows ++ rest)) (none : whole_count rows ≡ 0) where
  abbrev last : Row
  last = End (length b) (sayings_count b)

  abbrev told : List Row
  told = rows_in report.groups

  front : FrontCut told rows
  front =
      let few : length b < 2 ^ 64 = (let most_of = bundle.few in omega (arith, most_of)) in
      cut-front last (end-cut (length b) (sayings_count b), few) refl told
      (in-sections (λ c row. IsCut row) IsCut (λ c row h. h) b report.groups report.sections (sections-cut b bundle))
      (in-sections IsFewIn IsFew (λ c row h. h) b report.groups report.sections (sections-few b bundle))
      rows rest [] each (none-ends rows none)
      (report.whole ∙ ap (λ w. w ++ text_of (end_of b)) (owned-rows report.groups) ∙ ap (λ w. text_of told ++ text_of w) (end-is b))

  in-front : (c : ℕ) → is_closed rows c ≡ true → is_closed front.front c ≡ true
  in-front c e = sym (same-closed c rows front.front front.spelled) ∙ e

  closed-within : (c : ℕ) → is_closed rows c ≡ true → IsOf (length b) c
  closed-within c e =
      let here = rows-within b report.groups report.sections in
      closed-of (IsOf (length b)) c front.front
      (each-front (IsOfMany (length b)) front.front front.back (subst (Each (IsOfMany (length b))) front.whole here)) (in-front c e)

  once : (c : ℕ) → IsOnceClosed (rows_of c (front.front ++ front.back))
  once c = subst IsOnceClosed (sym (rows-section b report.groups report.sections c) ∙ ap (rows_of c) front.whole) (sections-once b c)

  none-back : kept_of rows front.back ≡ []
  none-back = none-kept rows front.back (λ c e. none-of c front.front front.back (once c) (in-front c e))

  kept-front : kept_of rows front.front ≡ rows_in (kept_groups rows report.groups)
  kept-front =
      sym (append-nil (kept_of rows front.front)) ∙ ap (λ w. kept_of rows front.front ++ w) (sym none-back) ∙ sym (kept-append rows front.front front.back)
      ∙ ap (kept_of rows) (sym front.whole) ∙ kept-grouped rows report.groups (rows-own b report.groups report.sections)

  abbrev those : List Collection
  those = closed_collections rows 1 b

  pub kept-tells : Tells those (report_of rows)
  kept-tells =
      let sections = sections-kept rows b report.groups report.sections in
      let few : length b ≤ most = (let most_of = bundle.few in let is = most-is in omega (arith, most_of, is)) in
      let count = count-kept rows b report.groups report.sections few closed-within in
      let patterns = same-patterns rows rows front.front front.spelled front.opened ∙ ap patterns_in kept-front ∙ patterns-are those (kept_groups rows report.groups) sections in
      record {
        groups = kept_groups rows report.groups;
        sections = sections;
        body = kept_of rows rows;
        spelled = same-kept rows rows front.front front.spelled ∙ ap (map spelling) kept-front;
        whole = (λ i. kept_of rows rows ++ End (count i) (patterns i) ∷ []) ∙ ap (λ w. kept_of rows rows ++ w) (sym (end-is those));
      }

  pub kept-report : IsReportOf those (text_of (report_of rows))
  kept-report = told-report those (report_of rows) kept-tells
