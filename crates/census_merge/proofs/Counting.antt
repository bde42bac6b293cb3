-- The loops over rows.
use Rattle.std.proofs.Common.{◌≡◌, ◌≢◌, ℕ, zero, suc, ◌+◌, ◌-◌, ◌<◌, ◌≤◌, Bool, true, false, ◌&&◌, ◌||◌, eqb, ltb, leb, Option, Some, None as Nothing, List, [], ◌∷◌, ◌++◌, ap, ◌∙◌, sym, refl, arith, length, take, drop, drop-cons, get_or, set, replicate, get_or-set_same, get_or-set_other, length-set, length-append, append_assoc}
use Rattle.std.specs.Prelude.{if◌then◌else◌}
use Rattle.std.proofs.Math.Bool.{or-false, or-true, or_assoc}
use Rattle.std.proofs.lemmas.Bool.{and_from, and_parts, eq-eqb, eqb-true, le-leb, leb-true, lt-ltb, ltb-true}
use Rattle.std.proofs.lemmas.List.{take_more, length-replicate, append-nil}
use Rattle.census_rows.specs.declared.row.Row.{Row}
use Rattle.census_rows.specs.declared.row.Row.TheVariants.{Open, Line, Part, Engine, Emits, Code, Close, End}
use Rattle.census_readback.specs.Limits.{count_limit}
use Rattle.census_readback.specs.Shapes.{AreOfCollections, patterns_in}
use Rattle.census_readback.specs.Steps.{collection_of, patterns_opened}
use Rattle.census_readback.proofs.Sorted.{of-at}
use Rattle.census_merge.specs.Kept.{closed_to, closes, is_closed, is_end, kept_of, numbered, whole_count}
use Rattle.census_merge.specs.Numbers.{AreFlags, AreNumbers, closed_index, kept_as, kept_by, marked, number_in}
use Rattle.census_merge.proofs.Ranks.{number-least}

-- # Up to the last row that ends a report

abbrev ends_at : ℕ → Bool → ℕ
ends_at w b = if ltb 0 w then w + 1 else (if b then 1 else 0)

whole-end : (xs : List Row) (r : Row) → is_end r ≡ true → whole_count (xs ++ r ∷ []) ≡ length xs + 1
whole-end [] r e = ap (λ b. if b then 1 else 0) e ∙ (let z : 1 ≡ 0 + 1 = omega arith in z)
whole-end (x ∷ xs) r e =
    let rest = whole-end xs r e in
    let some : ltb 0 (whole_count (xs ++ r ∷ [])) ≡ true = lt-ltb _ _ (omega (arith, rest)) in
    ap (λ b. if b then whole_count (xs ++ r ∷ []) + 1 else (if is_end x then 1 else 0)) some ∙ (omega (arith, rest))

whole-more : (xs : List Row) (r : Row) → is_end r ≡ false → whole_count (xs ++ r ∷ []) ≡ whole_count xs
whole-more [] r e = ap (λ b. if b then 1 else 0) e
whole-more (x ∷ xs) r e = ap (λ w. ends_at w (is_end x)) (whole-more xs r e)

pub count-less : (rows : List Row) (n : ℕ) (d : Row) → 0 < n → n ≤ length rows → is_end (get_or rows (n - 1) d) ≡ false
    → whole_count rows ≡ whole_count (take n rows) → whole_count rows ≡ whole_count (take (n - 1) rows)
count-less rows n d some most other h =
    let more : n ≡ (n - 1) + 1 = omega arith in
    h ∙ ap (λ m. whole_count (take m rows)) more ∙ ap whole_count (take_more rows (n - 1) d (omega arith)) ∙ whole-more (take (n - 1) rows) (get_or rows (n - 1) d) other

length-front : (n : ℕ) (rows : List Row) → n ≤ length rows → length (take n rows) ≡ n
length-front zero rows most = refl
length-front (suc n) [] most = absurd (omega arith)
length-front (suc n) (r ∷ rows) most = (let e = length-front n rows (omega arith) in omega (arith, e))

pub count-end : (rows : List Row) (n : ℕ) (d : Row) → 0 < n → n ≤ length rows → is_end (get_or rows (n - 1) d) ≡ true
    → whole_count rows ≡ whole_count (take n rows) → n ≡ whole_count rows
count-end rows n d some most last h =
    let more : n ≡ (n - 1) + 1 = omega arith in
    let size : length (take (n - 1) rows) ≡ n - 1 = length-front (n - 1) rows (omega arith) in
    let whole : whole_count rows ≡ length (take (n - 1) rows) + 1 =
    h ∙ ap (λ m. whole_count (take m rows)) more ∙ ap whole_count (take_more rows (n - 1) d (omega arith)) ∙ whole-end (take (n - 1) rows) (get_or rows (n - 1) d) last in
    omega (arith, whole, size)

-- # Which collections are closed

closed-append : (xs : List Row) (r : Row) (c : ℕ) → is_closed (xs ++ r ∷ []) c ≡ (is_closed xs c || closes c r)
closed-append [] r c = or-false (closes c r)
closed-append (x ∷ xs) r c = ap (λ b. closes c x || b) (closed-append xs r c) ∙ sym (or_assoc (closes c x) (is_closed xs c) (closes c r))

or-none : (b v : Bool) → v ≡ false → b ≡ (b || v)
or-none b v e = sym (ap (λ v. b || v) e ∙ or-false b)

get-none : (n i : ℕ) → get_or (replicate n false) i false ≡ false
get-none zero i = refl
get-none (suc n) zero = refl
get-none (suc n) (suc i) = get-none n i

pub flags-start : (n : ℕ) (rows : List Row) (flags : List Bool) → n ≡ count_limit → flags ≡ replicate n false → rows ≡ [] → AreFlags rows flags
flags-start n rows flags e f none = record {
  size = ap length f ∙ length-replicate n false ∙ e;
  each = λ i less. ap (λ xs. get_or xs i false) f ∙ get-none n i ∙ sym (ap (λ xs. is_closed xs (i + 1)) none);
}

if-index : (b : Bool) (n j : ℕ) → (if b then Some n else Nothing) ≡ Some j → (b ≡ true) × (n ≡ j)
if-index true n j h = (refl, cc)
if-index false n j h = absurd (cc)

if-nowhere : (b : Bool) (n : ℕ) → (if b then Some n else Nothing) ≡ Nothing → b ≡ false
if-nowhere true n h = absurd (cc)
if-nowhere false n h = refl

-- which collection a row closes
record ClosesAt (r : Row) (j : ℕ) : Type 0 where
  inside : j < count_limit
  own : closes (j + 1) r ≡ true
  others : (i : ℕ) → i ≢ j → closes (i + 1) r ≡ false

no-eq : (a b : ℕ) → a ≢ b → eqb a b ≡ false
no-eq a b other =
    let on : (v : Bool) → eqb a b ≡ v → v ≡ false = λ v. elim v as (λ v. eqb a b ≡ v → v ≡ false) [ true ↦ λ e. absurd (other (eqb-true _ _ e)) | false ↦ λ e. refl ] in
    on (eqb a b) refl

closes-at : (r : Row) (j : ℕ) → closed_index r ≡ Some j → ClosesAt r j
closes-at (Close c n a b d) j h =
    let k = if-index (ltb 0 c && leb c count_limit) (c - 1) j h in
    let both = and_parts (ltb 0 c) (leb c count_limit) k.0 in
    let low : 0 < c = ltb-true _ _ both.0 in
    let high : c ≤ count_limit = leb-true _ _ both.1 in
    let at = k.1 in
    record {
      inside = omega (arith, at, low, high);
      own = eq-eqb _ _ (omega (arith, at, low));
      others = λ i other. no-eq c (i + 1) (λ e. other (omega (arith, e, at)));
    }
closes-at (Open c n name) j h = absurd (cc)
closes-at (Line c i o name) j h = absurd (cc)
closes-at (Part c i code k) j h = absurd (cc)
closes-at (Engine c i e p x y k) j h = absurd (cc)
closes-at (Emits c i e code k) j h = absurd (cc)
closes-at (Code c rule code k) j h = absurd (cc)
closes-at (End n k) j h = absurd (cc)

closes-none : (r : Row) (i : ℕ) → closed_index r ≡ Nothing → i < count_limit → closes (i + 1) r ≡ false
closes-none (Close c n a b d) i h less =
    let k = if-nowhere (ltb 0 c && leb c count_limit) (c - 1) h in
    no-eq c (i + 1)
    (λ e. (let both : (ltb 0 c && leb c count_limit) ≡ true = and_from (ltb 0 c) (leb c count_limit) (lt-ltb 0 c (omega (arith, e))) (le-leb c count_limit (omega (arith, e, less))) in
    let clash : true ≡ false = sym both ∙ k in
    absurd (cc)))
closes-none (Open c n name) i h less = refl
closes-none (Line c i2 o name) i h less = refl
closes-none (Part c i2 code k) i h less = refl
closes-none (Engine c i2 e p x y k) i h less = refl
closes-none (Emits c i2 e code k) i h less = refl
closes-none (Code c rule code k) i h less = refl
closes-none (End n k) i h less = refl

module _ (rows : List Row) (n : ℕ) (d : Row) (flags : List Bool) (less : n < length rows) (are : AreFlags (take n rows) flags) where
  closed-next : (c : ℕ) → is_closed (take (n + 1) rows) c ≡ (is_closed (take n rows) c || closes c (get_or rows n d))
  closed-next c = ap (λ xs. is_closed xs c) (take_more rows n d less) ∙ closed-append (take n rows) (get_or rows n d) c

  pub flags-same : closed_index (get_or rows n d) ≡ Nothing → AreFlags (take (n + 1) rows) flags
  flags-same none = record {
    size = are.size;
    each = λ i small. are.each i small ∙ or-none (is_closed (take n rows) (i + 1)) (closes (i + 1) (get_or rows n d)) (closes-none (get_or rows n d) i none small) ∙ sym (closed-next (i + 1));
  }

  pub flags-more : (j : ℕ) → closed_index (get_or rows n d) ≡ Some j → AreFlags (take (n + 1) rows) (set flags j true)
  flags-more j some =
      let at = closes-at (get_or rows n d) j some in
      record {
        size = length-set flags j true ∙ are.size;
        each = λ i small.
            (let Goal = get_or (set flags j true) i false ≡ is_closed (take (n + 1) rows) (i + 1) in
            let on : (v : Bool) → eqb i j ≡ v → Goal = λ v. elim v as (λ v. eqb i j ≡ v → Goal) [
              | true ↦ λ e.
                  (let same : i ≡ j = eqb-true _ _ e in
                  ap (λ k. get_or (set flags j true) k false) same ∙ get_or-set_same flags j true false (let inside = at.inside in let size = are.size in omega (arith, inside, size))
                  ∙ sym (or-true (is_closed (take n rows) (j + 1))) ∙ ap (λ b. is_closed (take n rows) (j + 1) || b) (sym at.own)
                  ∙ sym (closed-next (j + 1)) ∙ ap (λ k. is_closed (take (n + 1) rows) (k + 1)) (sym same))
              | false ↦ λ e.
                  (let other : i ≢ j = λ same. (let clash : true ≡ false = sym (eq-eqb _ _ same) ∙ e in absurd (cc)) in
                  get_or-set_other flags j i true false other ∙ are.each i small
                  ∙ or-none (is_closed (take n rows) (i + 1)) (closes (i + 1) (get_or rows n d)) (at.others i other) ∙ sym (closed-next (i + 1)))
            ] in
            on (eqb i j) refl);
      }

  pub flag-inside : (j : ℕ) → closed_index (get_or rows n d) ≡ Some j → j < length flags
  flag-inside j some = (let inside = (closes-at (get_or rows n d) j some).inside in let size = are.size in omega (arith, inside, size))

  pub flags-marked : AreFlags (take (n + 1) rows) (marked (closed_index (get_or rows n d)) flags)
  flags-marked =
      let on : (o : Option ℕ) → closed_index (get_or rows n d) ≡ o → AreFlags (take (n + 1) rows) (marked o flags) =
      λ o. elim o as (λ o. closed_index (get_or rows n d) ≡ o → AreFlags (take (n + 1) rows) (marked o flags)) [
        | Nothing ↦ flags-same
        | Some j ↦ flags-more j
      ] in
      on (closed_index (get_or rows n d)) refl

-- # Their numbers

pub record Numbered (rows : List Row) (n : ℕ) (numbers : List ℕ) (count : ℕ) : Type 0 where
  pub size : length numbers ≡ n
  pub count-is : count ≡ closed_to rows n
  pub each : (i : ℕ) → i < n → get_or numbers i 0 ≡ number_in rows (i + 1)

pub numbered-start : (rows : List Row) → Numbered rows 0 [] 0
numbered-start rows = record { size = refl; count-is = refl; each = λ i less. absurd (omega arith) }

get-before : (xs : List ℕ) (x i : ℕ) → i < length xs → get_or (xs ++ x ∷ []) i 0 ≡ get_or xs i 0
get-before [] x i less = absurd (omega arith)
get-before (y ∷ xs) x zero less = refl
get-before (y ∷ xs) x (suc i) less = get-before xs x i (omega arith)

get-last : (xs : List ℕ) (x : ℕ) → get_or (xs ++ x ∷ []) (length xs) 0 ≡ x
get-last [] x = refl
get-last (y ∷ xs) x = get-last xs x

module _ (rows : List Row) (n : ℕ) (numbers : List ℕ) (count : ℕ) (are : Numbered rows n numbers count) where
  next-closed : (b : Bool) → is_closed rows (n + 1) ≡ b → closed_to rows (n + 1) ≡ closed_to rows n + (if b then 1 else 0)
  next-closed b e =
      let more : n + 1 ≡ suc n = omega arith in
      ap (closed_to rows) more ∙ ap (λ m. closed_to rows n + (if is_closed rows m then 1 else 0)) (sym more) ∙ ap (λ v. closed_to rows n + (if v then 1 else 0)) e

  pub number-more : (b : Bool) (last : ℕ) (after : ℕ) → is_closed rows (n + 1) ≡ b → after ≡ count + (if b then 1 else 0) → last ≡ (if b then after else 0)
      → Numbered rows (n + 1) (numbers ++ last ∷ []) after
  number-more b last after closed grown is =
      let next = next-closed b closed in
      let total : after ≡ closed_to rows (n + 1) = grown ∙ ap (λ k. k + (if b then 1 else 0)) are.count-is ∙ sym next in
      record {
        size = length-append numbers (last ∷ []) ∙ ap (λ k. k + 1) are.size;
        count-is = total;
        each = λ i less.
            (let Goal = get_or (numbers ++ last ∷ []) i 0 ≡ number_in rows (i + 1) in
            let on : (v : Bool) → ltb i n ≡ v → Goal = λ v. elim v as (λ v. ltb i n ≡ v → Goal) [
              | true ↦ λ e. (let small : i < n = ltb-true _ _ e in get-before numbers last i (let size = are.size in omega (arith, small, size)) ∙ are.each i small)
              | false ↦ λ e.
                  (let same : i ≡ length numbers = (let size = are.size in grind (arith, e, less, size)) in
                  let here : i ≡ n = same ∙ are.size in
                  ap (λ k. get_or (numbers ++ last ∷ []) k 0) same ∙ get-last numbers last ∙ is
                  ∙ ap (λ k. if b then k else 0) total ∙ ap (λ v. if v then closed_to rows (n + 1) else 0) (sym closed)
                  ∙ ap (λ k. number_in rows (k + 1)) (sym here))
            ] in
            on (ltb i n) refl);
      }

-- # Rows that are kept

pub of-high : (n m : ℕ) (rows : List Row) (i : ℕ) (d : Row) → AreOfCollections n rows → i < length rows → m ≡ n → collection_of (get_or rows i d) ≤ m
of-high n m rows i d h less e = (let most = (of-at n rows i d h less).1 in omega (arith, most, e))

kept-row : (all : List Row) (numbers : List ℕ) (r : Row) → AreNumbers all numbers → 0 < collection_of r → collection_of r ≤ count_limit
    → kept_as numbers r ≡ (if is_closed all (collection_of r) then Some (numbered (closed_to all (collection_of r)) r) else Nothing)
kept-row all numbers r are low high =
    let c = collection_of r in
    let number : (c - 1) + 1 ≡ c = omega arith in
    let at : get_or numbers (c - 1) 0 ≡ number_in all c = are.each (c - 1) (omega arith) ∙ ap (number_in all) number in
    let on : (b : Bool) → is_closed all c ≡ b → kept_by (if b then closed_to all c else 0) r ≡ (if b then Some (numbered (closed_to all c) r) else Nothing) =
    λ b. elim b as (λ b. is_closed all c ≡ b → kept_by (if b then closed_to all c else 0) r ≡ (if b then Some (numbered (closed_to all c) r) else Nothing)) [
      | true ↦ λ e. ap (λ v. if v then Some (numbered (closed_to all c) r) else Nothing) (lt-ltb _ _ (number-least all c low e))
      | false ↦ λ e. refl
    ] in
    ap (λ n. kept_by n r) at ∙ on (is_closed all c) refl

abbrev prepended : Option Row → List Row → List Row
prepended Nothing rows = rows
prepended (Some row) rows = row ∷ rows

with-if : (b : Bool) (x : Row) (rows : List Row) → (if b then x ∷ rows else rows) ≡ prepended (if b then Some x else Nothing) rows
with-if true x rows = refl
with-if false x rows = refl

-- how far they are gathered
abbrev pub Gathers : List Row → ℕ → List Row → Type 0
Gathers rows i kept = kept ++ kept_of rows (drop i rows) ≡ kept_of rows rows

module _ (rows : List Row) (i : ℕ) (d : Row) (numbers : List ℕ) (are : AreNumbers rows numbers) (own : AreOfCollections count_limit rows) (less : i < length rows)
    (kept : List Row) (h : Gathers rows i kept) where
  abbrev row : Row
  row = get_or rows i d

  cut : kept ++ prepended (kept_as numbers (get_or rows i d)) (kept_of rows (drop (i + 1) rows)) ≡ kept_of rows rows
  cut =
      let has = of-at count_limit rows i d own less in
      let more : suc i ≡ i + 1 = omega arith in
      let c = collection_of row in
      let rest = kept_of rows (drop (i + 1) rows) in
      ap (λ (o : Option Row). kept ++ prepended o rest) (kept-row rows numbers row are has.0 has.1)
      ∙ ap (λ w. kept ++ w) (sym (with-if (is_closed rows c) (numbered (closed_to rows c) row) rest))
      ∙ ap (λ k. kept ++ kept_of rows (row ∷ drop k rows)) (sym more)
      ∙ ap (λ w. kept ++ kept_of rows w) (sym (drop-cons rows i d less)) ∙ h

  pub gathers-more : (r : Row) → kept_as numbers (get_or rows i d) ≡ Some r → Gathers rows (i + 1) (kept ++ r ∷ [])
  gathers-more r e =
      append_assoc kept (r ∷ []) (kept_of rows (drop (i + 1) rows)) ∙ ap (λ (o : Option Row). kept ++ prepended o (kept_of rows (drop (i + 1) rows))) (sym e) ∙ cut

  pub gathers-same : kept_as numbers (get_or rows i d) ≡ Nothing → Gathers rows (i + 1) kept
  gathers-same e = ap (λ (o : Option Row). kept ++ prepended o (kept_of rows (drop (i + 1) rows))) (sym e) ∙ cut

drop-over : (i : ℕ) (rows : List Row) → length rows ≤ i → drop i rows ≡ []
drop-over zero [] over = refl
drop-over zero (r ∷ rows) over = absurd (omega arith)
drop-over (suc i) [] over = refl
drop-over (suc i) (r ∷ rows) over = drop-over i rows (omega arith)

pub gathers-end : (rows kept : List Row) (i : ℕ) → Gathers rows i kept → length rows ≤ i → kept ≡ kept_of rows rows
gathers-end rows kept i h over = sym (append-nil kept) ∙ ap (λ w. kept ++ kept_of rows w) (sym (drop-over i rows over)) ∙ h

-- # Patterns

pub sums-more : (rows : List Row) (i : ℕ) (d : Row) (sum : ℕ) → i < length rows → sum + patterns_in (drop i rows) ≡ patterns_in rows
    → (sum + patterns_opened (get_or rows i d)) + patterns_in (drop (i + 1) rows) ≡ patterns_in rows
sums-more rows i d sum less h =
    let more : suc i ≡ i + 1 = omega arith in
    let cut : patterns_in (drop i rows) ≡ patterns_opened (get_or rows i d) + patterns_in (drop (i + 1) rows) =
    ap patterns_in (drop-cons rows i d less) ∙ ap (λ k. patterns_opened (get_or rows i d) + patterns_in (drop k rows)) more in
    omega (arith, cut, h)

pub sums-end : (rows : List Row) (i sum : ℕ) → length rows ≤ i → sum + patterns_in (drop i rows) ≡ patterns_in rows → sum ≡ patterns_in rows
sums-end rows i sum over h = (let none : patterns_in (drop i rows) ≡ 0 = ap patterns_in (drop-over i rows over) in omega (arith, none, h))
