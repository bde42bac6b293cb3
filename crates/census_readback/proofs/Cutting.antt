-- Reports that are cut at their `end` rows.
use Rattle.std.proofs.Common.{◌≡◌, ℕ, suc, ◌+◌, ◌-◌, ◌<◌, ◌≤◌, Option, Some, None as Nothing, List, [], ◌∷◌, ◌++◌, ap, ◌∙◌, sym, refl, arith, subst, length, get_or, take, drop, append_assoc, drop-cons, length-drop}
use Rattle.std.proofs.Math.Seq.{drop-length}
use Rattle.std.proofs.lemmas.List.{append-nil, take_more, get_or-drop}
use Rattle.census_rows.specs.declared.row.Row.{Row}
use Rattle.census_rows.specs.declared.row.Row.TheVariants.{Open, Line, Part, Engine, Emits, Code, Close, End}
use Rattle.census_readback.specs.Steps.{collection_of}
use Rattle.census_readback.specs.Shapes.{AreOfCollections, AreWhole, AreReports, all_rows, patterns_in}
use Rattle.census_readback.specs.Grouped.{sections_of, collections_of, end_of}

-- each report's rows are of its collections, if these of the first report have been passed
abbrev pub Ended : List Row → List Row → Type 0
Ended here [] = Unit {0}
Ended here (row ∷ rows) = elim (end_of row) [ Nothing ↦ Ended (here ++ row ∷ []) rows | Some count ↦ AreOfCollections count here × Ended [] rows ]

no-end : (r : Row) → 0 < collection_of r → end_of r ≡ Nothing
no-end (Open c n name) h = refl
no-end (Line c i o name) h = refl
no-end (Part c i code k) h = refl
no-end (Engine c i e p x y k) h = refl
no-end (Emits c i e code k) h = refl
no-end (Code c rule code k) h = refl
no-end (Close c n a b d) h = refl
no-end (End n k) h = absurd (omega arith)

pub collections-body : (here body : List Row) (n k m : ℕ) (rest : List Row) → AreOfCollections m body
    → collections_of here (body ++ End n k ∷ rest) ≡ sections_of 1 n (here ++ body) ++ collections_of [] rest
collections-body here [] n k m rest h = ap (λ (w : List Row). sections_of 1 n w ++ collections_of [] rest) (sym (append-nil here))
collections-body here (r ∷ body) n k m rest h =
    let back = body ++ End n k ∷ rest in
    let step : collections_of here (r ∷ back) ≡ collections_of (here ++ r ∷ []) back =
    ap (λ (o : Option ℕ). elim o as (λ _. List (List Row)) [ Nothing ↦ collections_of (here ++ r ∷ []) back | Some count ↦ sections_of 1 count here ++ collections_of [] back ]) (no-end r h.0) in
    step ∙ collections-body (here ++ r ∷ []) body n k m rest h.2 ∙ ap (λ (w : List Row). sections_of 1 n w ++ collections_of [] rest) (append_assoc here (r ∷ []) body)

of-one : (n : ℕ) (xs : List Row) (r : Row) → AreOfCollections n xs → 0 < collection_of r → collection_of r ≤ n → AreOfCollections n (xs ++ r ∷ [])
of-one n [] r h low high = (low, high, tt)
of-one n (x ∷ xs) r h low high = (h.0, h.1, of-one n xs r h.2 low high)

ended-body : (here body : List Row) (n k : ℕ) (rest : List Row) → AreOfCollections n here → AreOfCollections n body → Ended [] rest → Ended here (body ++ End n k ∷ rest)
ended-body here [] n k rest before are h = (before, h)
ended-body here (r ∷ body) n k rest before are h =
    let inner = ended-body (here ++ r ∷ []) body n k rest (of-one n here r before are.0 are.1) are.2 h in
    subst (λ (o : Option ℕ). let family : Option ℕ → Type 0 = λ (x : Option ℕ). elim x as (λ _. Type 0) [ Nothing ↦ Ended (here ++ r ∷ []) (body ++ End n k ∷ rest) | Some count ↦ AreOfCollections count here × Ended [] (body ++ End n k ∷ rest) ] in family o)
    (sym (no-end r are.0)) inner

ended-all : (reports : List (List Row)) → AreWhole reports → Ended [] (all_rows reports)
ended-all [] h = tt
ended-all (rows ∷ reports) h =
    let is = h.0 in
    let e : rows ++ all_rows reports ≡ is.body ++ End is.collections (patterns_in is.body) ∷ all_rows reports =
    ap (λ w. w ++ all_rows reports) is.whole ∙ append_assoc is.body (End is.collections (patterns_in is.body) ∷ []) (all_rows reports) in
    subst (λ w. Ended [] w) (sym e) (ended-body [] is.body is.collections (patterns_in is.body) (all_rows reports) tt is.owned (ended-all reports h.1))

pub ended-start : (rows : List Row) → AreReports rows → Ended [] rows
ended-start rows is = subst (λ w. Ended [] w) (sym is.whole) (ended-all is.reports is.each)

-- what is known once the rows up to i have been looked at, and those before b are of earlier reports
pub record Cut (rows : List Row) (b i : ℕ) (lists : List (List Row)) : Type 0 where
  pub begins : b ≤ i
  pub rest : collections_of [] rows ≡ lists ++ collections_of (take (i - b) (drop b rows)) (drop i rows)
  pub ended : Ended (take (i - b) (drop b rows)) (drop i rows)

drop-one : (rows : List Row) (i : ℕ) (d : Row) → i < length rows → drop i rows ≡ get_or rows i d ∷ drop (i + 1) rows
drop-one rows i d less = (let e : suc i ≡ i + 1 = omega arith in drop-cons rows i d less ∙ ap (λ k. get_or rows i d ∷ drop k rows) e)

here-one : (rows : List Row) (b i : ℕ) (d : Row) → b ≤ i → i < length rows → take ((i + 1) - b) (drop b rows) ≡ take (i - b) (drop b rows) ++ get_or rows i d ∷ []
here-one rows b i d low less =
    let e : (i + 1) - b ≡ (i - b) + 1 = omega arith in
    let place : b + (i - b) ≡ i = omega arith in
    let size : i - b < length (drop b rows) = omega (arith, length-drop b rows) in
    ap (λ k. take k (drop b rows)) e ∙ take_more (drop b rows) (i - b) d size
    ∙ ap (λ w. take (i - b) (drop b rows) ++ w ∷ []) (get_or-drop b rows (i - b) d ∙ ap (λ k. get_or rows k d) place)

pub cut-start : (rows : List Row) → AreReports rows → Cut rows 0 0 []
cut-start rows is = record { begins = omega arith; rest = refl; ended = ended-start rows is }

pub cut-none : (rows : List Row) (b i : ℕ) (lists : List (List Row)) (d : Row) → Cut rows b i lists → i < length rows → end_of (get_or rows i d) ≡ Nothing
    → Cut rows b (i + 1) lists
cut-none rows b i lists d cut less none =
    let here = take (i - b) (drop b rows) in
    let r = get_or rows i d in
    let grown = here-one rows b i d cut.begins less in
    let back = drop (i + 1) rows in
    let step : collections_of here (r ∷ back) ≡ collections_of (here ++ r ∷ []) back =
    ap (λ (o : Option ℕ). elim o as (λ _. List (List Row)) [ Nothing ↦ collections_of (here ++ r ∷ []) back | Some count ↦ sections_of 1 count here ++ collections_of [] back ]) none in
    let was : Ended here (r ∷ back) = subst (λ w. Ended here w) (drop-one rows i d less) cut.ended in
    let now : Ended (here ++ r ∷ []) back =
    subst (λ (o : Option ℕ). let family : Option ℕ → Type 0 = λ (x : Option ℕ). elim x as (λ _. Type 0) [ Nothing ↦ Ended (here ++ r ∷ []) back | Some count ↦ AreOfCollections count here × Ended [] back ] in family o) none was in
    record {
      begins = omega (arith, cut.begins);
      rest = cut.rest ∙ ap (λ w. lists ++ collections_of here w) (drop-one rows i d less) ∙ ap (λ w. lists ++ w) step
          ∙ ap (λ w. lists ++ collections_of w back) (sym grown);
      ended = subst (λ w. Ended w back) (sym grown) now;
    }

pub cut-some : (rows : List Row) (b i n : ℕ) (lists : List (List Row)) (d : Row) → Cut rows b i lists → i < length rows → end_of (get_or rows i d) ≡ Some n
    → AreOfCollections n (take (i - b) (drop b rows)) × Cut rows (i + 1) (i + 1) (lists ++ sections_of 1 n (take (i - b) (drop b rows)))
cut-some rows b i n lists d cut less some =
    let here = take (i - b) (drop b rows) in
    let r = get_or rows i d in
    let back = drop (i + 1) rows in
    let nothing : (i + 1) - (i + 1) ≡ 0 = omega arith in
    let empty : take ((i + 1) - (i + 1)) back ≡ [] = ap (λ k. take k back) nothing in
    let step : collections_of here (r ∷ back) ≡ sections_of 1 n here ++ collections_of [] back =
    ap (λ (o : Option ℕ). elim o as (λ _. List (List Row)) [ Nothing ↦ collections_of (here ++ r ∷ []) back | Some count ↦ sections_of 1 count here ++ collections_of [] back ]) some in
    let was : Ended here (r ∷ back) = subst (λ w. Ended here w) (drop-one rows i d less) cut.ended in
    let now : AreOfCollections n here × Ended [] back =
    subst (λ (o : Option ℕ). let family : Option ℕ → Type 0 = λ (x : Option ℕ). elim x as (λ _. Type 0) [ Nothing ↦ Ended (here ++ r ∷ []) back | Some count ↦ AreOfCollections count here × Ended [] back ] in family o) some was in (
      now.0,
      record {
        begins = omega arith;
        rest = cut.rest ∙ ap (λ w. lists ++ collections_of here w) (drop-one rows i d less) ∙ ap (λ w. lists ++ w) step
            ∙ sym (append_assoc lists (sections_of 1 n here) (collections_of [] back))
            ∙ ap (λ w. (lists ++ sections_of 1 n here) ++ collections_of w back) (sym empty);
        ended = subst (λ w. Ended w back) (sym empty) now.1;
      },
    )

pub cut-end : (rows : List Row) (b i : ℕ) (lists : List (List Row)) → Cut rows b i lists → i ≡ length rows → lists ≡ collections_of [] rows
cut-end rows b i lists cut last =
    let none : drop i rows ≡ [] = ap (λ k. drop k rows) last ∙ drop-length rows in
    sym (cut.rest ∙ ap (λ w. lists ++ collections_of (take (i - b) (drop b rows)) w) none ∙ append-nil lists)
