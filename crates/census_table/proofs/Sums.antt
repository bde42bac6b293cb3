-- Objects in the order of their kinds, counted kind by kind.
use Rattle.std.proofs.Common.{◌≡◌, ℕ, ◌+◌, ◌<◌, zero, suc, Bool, true, false, not, ◌&&◌, ◌||◌, eqb, if◌then◌else◌, List, [], ◌∷◌, length, refl, sym, ap, ap₂, ◌∙◌, subst, arith, true≢false, map}
use Rattle.std.specs.Prelude.{filter, count_by, nat_eq, cond, reverse, slice_index_or}
use Rattle.std.specs.Cmp.Lexicographic.{as_long, pointwise, slice_cmp, texts_ties}
use Rattle.std.specs.Cmp.{both_tied, unsigned_tied, IsTotalOrder, IsEquivalence, IsStrictWeakOrder, Equal-is}
use Rattle.std.specs.List.{All, AllByRecursion, dedup_from, list_any, sum_by}
use Rattle.std.specs.List.Sorted.{ties, IsPermutation, IsSorted, IsSortedBy}
use Rattle.std.specs.Ordering.{eq_by_cmp, is_eq, is_gt, is_lt, nat_cmp, ordering_reverse, ordering_then}
use Rattle.std.specs.declared.cmp.Ordering.{Ordering}
use Rattle.std.specs.declared.cmp.Ordering.TheVariants.{Less, Equal, Greater}
use Rattle.std.proofs.lemmas.Cmp.{eq_by_cmp_equiv, nat_cmp_total, on_total, then_total}
use Rattle.std.proofs.lemmas.List.Elements.{All-cons, All-from_recursion, All-nil, All-tail, filter_agree}
use Rattle.std.proofs.lemmas.List.Sorted.{All-permutation, IsPermutation-reverse, IsPermutation-sym, IsPermutation-trans, ranks_by, sum_by-IsPermutation}
use Rattle.std.proofs.lemmas.List.Sums.{sum_by-cons}
use Rattle.std.proofs.lemmas.List.{get_or-map, length-map}
use Rattle.census_table.specs.Kinds.{capped, count_cmp, counted, rank_cmp, kind_cmp, same_kind, same_pattern, AreKinds, IsCounted}
use Rattle.census_table.specs.KindLaws.{kind_total}
use Rattle.census_table.specs.Grouping.{alone, grouped, joined, with_told, AreInKinds}
use Rattle.census_table.specs.Places.{Rises}
use Rattle.census_table.specs.declared.entry.Entry.{Entry}
use Rattle.census_table.specs.declared.object.Object.{Object}
use Rattle.census_table.specs.declared.place.Place.{Place}
use Rattle.census_rows.proofs.Filters.{filter-map, filter-none}

-- ---- the order

absorbed : (l c r : Bool) → (c ≡ true → l ≡ true) → (c && r) ≡ (l && (c && r))
absorbed true c r h = refl
absorbed false true r h = absurd (true≢false (sym (h refl)))
absorbed false false r h = refl

same-length : (xs ys : List ℕ) → pointwise nat_eq xs ys ≡ true → eqb (length xs) (length ys) ≡ true
same-length xs ys h = let e = as_long nat_eq xs ys h in grind arith

pub same_is : (o p : Object) → same_kind o p ≡ is_eq (kind_cmp o p)
same_is o p =
    let l = eqb (length o.code.now) (length p.code.now) in
    let c = pointwise nat_eq o.code.now p.code.now in
    let r = pointwise nat_eq o.rule.now p.rule.now in
    absorbed l c r (same-length o.code.now p.code.now)
    ∙ both_tied l (c && r) (nat_cmp (length o.code.now) (length p.code.now)) (ordering_then (slice_cmp nat_cmp o.code.now p.code.now) (slice_cmp nat_cmp o.rule.now p.rule.now))
    (sym (unsigned_tied (length o.code.now) (length p.code.now)))
    (both_tied c r (slice_cmp nat_cmp o.code.now p.code.now) (slice_cmp nat_cmp o.rule.now p.rule.now) (texts_ties o.code.now p.code.now) (texts_ties o.rule.now p.rule.now))

equivalence : IsEquivalence (eq_by_cmp kind_cmp)
equivalence = eq_by_cmp_equiv kind_total

pub same-itself : (o : Object) → same_kind o o ≡ true
same-itself o = same_is o o ∙ equivalence.refl o

pub same-back : (o p : Object) → same_kind o p ≡ same_kind p o
same-back o p = same_is o p ∙ equivalence.symm o p ∙ sym (same_is p o)

pub same-alike : (o p x : Object) → same_kind o p ≡ true → same_kind o x ≡ same_kind p x
same-alike o p x h = same_is o x ∙ equivalence.congr o p x (sym (same_is o p) ∙ h) ∙ sym (same_is p x)

pub same-right : (x o p : Object) → same_kind o p ≡ true → same_kind x o ≡ same_kind x p
same-right x o p h = same-back x o ∙ same-alike o p x h ∙ same-back p x

-- what a stable sort says of kinds
lt_gt : (r : Ordering) → (not (is_lt r) && not (is_lt (ordering_reverse r))) ≡ is_eq r
lt_gt Less = refl
lt_gt Equal = refl
lt_gt Greater = refl

pub tied-same : (o p : Object) → ties (λ a b. is_lt (kind_cmp a b)) o p ≡ same_kind o p
tied-same o p = ap (λ r. not (is_lt (kind_cmp o p)) && not (is_lt r)) (kind_total.antisymm p o) ∙ lt_gt (kind_cmp o p) ∙ sym (same_is o p)

-- ---- objects in the order of their kinds

-- one that differs from the next differs from all that follow
level : (r s : Ordering) → is_gt r ≡ false → is_eq r ≡ false → r ≡ Less
level Less s h k = refl
level Equal s h k = absurd (true≢false k)
level Greater s h k = absurd (true≢false h)

further_by : (o p x : Object) (s : Ordering) → kind_cmp o p ≡ Less → kind_cmp p x ≡ s → is_gt s ≡ false → is_eq (kind_cmp o x) ≡ false
further_by o p x Less a b h = ap is_eq (kind_total.trans o p x a b)
further_by o p x Equal a b h = ap is_eq (sym (right-alike p x o b) ∙ a)
  where
    right-alike : (x y z : Object) → kind_cmp x y ≡ Equal → kind_cmp z x ≡ kind_cmp z y
    right-alike x y z e = kind_total.antisymm z x ∙ ap ordering_reverse (kind_total.congr x y z e) ∙ sym (kind_total.antisymm z y)
further_by o p x Greater a b h = absurd (true≢false h)

no-further : (o p : Object) (ps : List Object) → AreInKinds (o ∷ (p ∷ ps)) → same_kind o p ≡ false → All (λ x. same_kind o x ≡ false) (p ∷ ps)
no-further o p ps h other =
    let less = level (kind_cmp o p) Less (h.0 0 o (omega arith)) (sym (same_is o p) ∙ other) in
    All-cons (λ x. same_kind o x ≡ false) p ps other
    (λ k d small. same_is o (slice_index_or ps k d) ∙ further_by o p (slice_index_or ps k d) (kind_cmp p (slice_index_or ps k d)) less refl (h.1.0 k d small))

-- ---- the kinds

-- a kind of none of the objects is none of the kinds
none-told : (x o : Object) (kinds : List Object) → same_kind x o ≡ false → All (λ k. same_kind x k ≡ false) kinds → All (λ k. same_kind x k ≡ false) (with_told o kinds)
none-told x o [] a b = All-cons (λ k. same_kind x k ≡ false) (alone o) [] a (All-nil (λ k. same_kind x k ≡ false))
none-told x o (k ∷ ks) a b = go (same_kind o k)
  where
    go : (c : Bool) → All (λ k. same_kind x k ≡ false) (if c then joined o k ∷ ks else alone o ∷ (k ∷ ks))
    go true = All-cons (λ k. same_kind x k ≡ false) (joined o k) ks a (All-tail (λ k. same_kind x k ≡ false) k ks b)
    go false = All-cons (λ k. same_kind x k ≡ false) (alone o) (k ∷ ks) a b

none-grouped : (x : Object) (os : List Object) → All (λ p. same_kind x p ≡ false) os → All (λ k. same_kind x k ≡ false) (grouped os)
none-grouped x [] h = All-nil (λ k. same_kind x k ≡ false)
none-grouped x (o ∷ os) h = none-told x o (grouped os) (h 0 o (omega arith)) (none-grouped x os (All-tail (λ p. same_kind x p ≡ false) o os h))

-- the first kind is that of the first object
pub record Heads (o : Object) (kinds : List Object) : Type 0 where
  pub kind : Object
  pub others : List Object
  pub are : kinds ≡ kind ∷ others
  pub code : kind.code ≡ o.code
  pub rule : kind.rule ≡ o.rule

heads-told : (o : Object) (kinds : List Object) → Heads o (with_told o kinds)
heads-told o [] = record { kind = alone o; others = []; are = refl; code = refl; rule = refl }
heads-told o (k ∷ ks) = go (same_kind o k)
  where
    go : (c : Bool) → Heads o (if c then joined o k ∷ ks else alone o ∷ (k ∷ ks))
    go true = record { kind = joined o k; others = ks; are = refl; code = refl; rule = refl }
    go false = record { kind = alone o; others = k ∷ ks; are = refl; code = refl; rule = refl }

heads : (o : Object) (os : List Object) → Heads o (grouped (o ∷ os))
heads o os = heads-told o (grouped os)

abbrev one-if : Bool → ℕ
one-if b = if b then 1 else 0

count-cons : (p : Object → Bool) (x : Object) (xs : List Object) → count_by p (x ∷ xs) ≡ one-if (p x) + count_by p xs
count-cons p x xs = sum_by-cons (λ y. cond (p y) 1 0) x xs

count-none : (p : Object → Bool) (xs : List Object) → count_by p xs ≡ 0 → All (λ x. p x ≡ false) xs
count-none p [] h = All-nil (λ x. p x ≡ false)
count-none p (x ∷ xs) h = go (p x) refl (sym (count-cons p x xs) ∙ h) (count-none p xs)
  where
    go : (b : Bool) → p x ≡ b → one-if b + count_by p xs ≡ 0 → (count_by p xs ≡ 0 → All (λ x. p x ≡ false) xs) → All (λ x. p x ≡ false) (x ∷ xs)
    go true e s rest = absurd (omega (arith, s))
    go false e s rest = All-cons (λ x. p x ≡ false) x xs e (rest (omega (arith, s)))

none-any : (p : Object → Bool) (xs : List Object) → All (λ x. p x ≡ false) xs → list_any p xs ≡ false
none-any p [] h = refl
none-any p (x ∷ xs) h = ap₂ (λ a b. a || b) (h 0 x (omega arith)) (none-any p xs (All-tail (λ x. p x ≡ false) x xs h))

nothing-more : (n : ℕ) → 0 + n ≡ n
nothing-more n = omega arith

-- with one more object before them
count-more : (x o p : Object) (ps : List Object) → AreInKinds (o ∷ (p ∷ ps)) → count_by (same_kind x) (grouped (p ∷ ps)) ≡ one-if (list_any (same_kind x) (p ∷ ps))
    → count_by (same_kind x) (grouped (o ∷ (p ∷ ps))) ≡ one-if (list_any (same_kind x) (o ∷ (p ∷ ps)))
count-more x o p ps h rest = subst (λ kinds. count_by (same_kind x) (with_told o kinds) ≡ one-if (list_any (same_kind x) (o ∷ (p ∷ ps)))) (sym head.are) (go (same_kind o head.kind) refl)
  where
    head : Heads p (grouped (p ∷ ps))
    head = heads p ps

    inner : count_by (same_kind x) (head.kind ∷ head.others) ≡ one-if (list_any (same_kind x) (p ∷ ps))
    inner = ap (count_by (same_kind x)) (sym head.are) ∙ rest

    same : same_kind o head.kind ≡ same_kind o p
    same = ap₂ (λ c r. pointwise nat_eq o.code.now c.now && pointwise nat_eq o.rule.now r.now) head.code head.rule

    own : same_kind x head.kind ≡ same_kind x p
    own = ap₂ (λ c r. pointwise nat_eq x.code.now c.now && pointwise nat_eq x.rule.now r.now) head.code head.rule

    or-same : (a b c : Bool) → a ≡ b → (a || (b || c)) ≡ (b || c)
    or-same true true c e = refl
    or-same true false c e = absurd (true≢false e)
    or-same false b c e = refl

    last : (b : Bool) → same_kind x o ≡ b → same_kind o p ≡ false → one-if b + one-if (list_any (same_kind x) (p ∷ ps)) ≡ one-if (b || list_any (same_kind x) (p ∷ ps))
    last true e other =
        let none = none-any (same_kind x) (p ∷ ps) (λ k d small. same-alike x o (slice_index_or (p ∷ ps) k d) e ∙ no-further o p ps h other k d small) in
        ap (λ (b : Bool). 1 + one-if b) none
    last false e other = nothing-more (one-if (list_any (same_kind x) (p ∷ ps)))

    go : (b : Bool) → same_kind o head.kind ≡ b → count_by (same_kind x) (if b then joined o head.kind ∷ head.others else alone o ∷ (head.kind ∷ head.others)) ≡ one-if (list_any (same_kind x) (o ∷ (p ∷ ps)))
    go true e =
        let equal : same_kind x o ≡ same_kind x p = same-right x o p (sym same ∙ e) in
        count-cons (same_kind x) (joined o head.kind) head.others
        ∙ ap (λ b. one-if b + count_by (same_kind x) head.others) (equal ∙ sym own)
        ∙ sym (count-cons (same_kind x) head.kind head.others) ∙ inner
        ∙ ap one-if (sym (or-same (same_kind x o) (same_kind x p) (list_any (same_kind x) ps) equal))
    go false e =
        count-cons (same_kind x) (alone o) (head.kind ∷ head.others)
        ∙ ap (λ n. one-if (same_kind x o) + n) inner ∙ last (same_kind x o) refl (sym same ∙ e)

-- each kind that an object has occurs there once, and no other kind occurs
count-grouped : (x : Object) (os : List Object) → AreInKinds os → count_by (same_kind x) (grouped os) ≡ one-if (list_any (same_kind x) os)
count-grouped x [] h = refl
count-grouped x (o ∷ []) h = count-cons (same_kind x) (alone o) [] ∙ go (same_kind x o)
  where
    go : (b : Bool) → one-if b + 0 ≡ one-if (b || false)
    go true = refl
    go false = refl
count-grouped x (o ∷ (p ∷ ps)) h = count-more x o p ps h (count-grouped x (p ∷ ps) h.1)

any-there : (x : Object) (os : List Object) (k : ℕ) (d : Object) → k < length os → same_kind x (slice_index_or os k d) ≡ true → list_any (same_kind x) os ≡ true
any-there x [] k d small h = absurd (omega arith)
any-there x (o ∷ os) zero d small h = ap (λ b. b || list_any (same_kind x) os) h
any-there x (o ∷ os) (suc k) d small h = go (same_kind x o) (any-there x os k d (omega arith) h)
  where
    go : (b : Bool) → list_any (same_kind x) os ≡ true → (b || list_any (same_kind x) os) ≡ true
    go true e = refl
    go false e = e

pub once-grouped : (os : List Object) → AreInKinds os → All (λ o. count_by (same_kind o) (grouped os) ≡ 1) os
once-grouped os h = λ k d small.
    let x = slice_index_or os k d in
    count-grouped x os h ∙ ap one-if (any-there x os k d small (same-itself x))

-- ---- what is counted

capped-sum : (a b : ℕ) → capped (a + capped b) ≡ capped (a + b)
capped-sum a b = grind arith

counts-one : (o : Object) → alone o ≡ counted o []
counts-one o = ap₂ (λ (c : ℕ) (n : ℕ). record o { count = c; patterns = n }) (ap capped (sym (sum_by-cons (λ (p : Object). p.count) o []))) refl

-- as many runs, whichever of two entries of one pattern comes first
runs-alike : (e f : Entry) (es : List Entry) → ((x : Entry) → same_pattern x e ≡ same_pattern x f)
    → length (dedup_from same_pattern e es) ≡ length (dedup_from same_pattern f es)
runs-alike e f [] alike = refl
runs-alike e f (x ∷ es) alike =
    ap (λ (b : Bool). length (cond b (dedup_from same_pattern e es) (e ∷ dedup_from same_pattern x es))) (alike x)
    ∙ either (runs-alike e f es alike) (same_pattern x f)
  where
    either : length (dedup_from same_pattern e es) ≡ length (dedup_from same_pattern f es) → (b : Bool)
        → length (cond b (dedup_from same_pattern e es) (e ∷ dedup_from same_pattern x es))
        ≡ length (cond b (dedup_from same_pattern f es) (f ∷ dedup_from same_pattern x es))
    either same true = same
    either same false = refl

-- one more entry adds a run where it isn't of the pattern of the next
runs-more : (e f : Entry) (es : List Entry)
    → (if same_pattern e f then 0 else 1) + length (dedup_from same_pattern f es) ≡ length (dedup_from same_pattern e (f ∷ es))
runs-more e f es = ap (λ (b : Bool). (if b then 0 else 1) + length (dedup_from same_pattern f es)) symmetric ∙ either (same_pattern f e) refl
  where
    symmetric : same_pattern e f ≡ same_pattern f e
    symmetric = grind arith

    alike : same_pattern f e ≡ true → (x : Entry) → same_pattern x f ≡ same_pattern x e
    alike h x = grind arith

    either : (b : Bool) → same_pattern f e ≡ b
        → (if b then 0 else 1) + length (dedup_from same_pattern f es)
        ≡ length (cond b (dedup_from same_pattern e es) (e ∷ dedup_from same_pattern f es))
    either true h =
        let none : 0 + length (dedup_from same_pattern f es) ≡ length (dedup_from same_pattern f es) = omega arith in
        none ∙ runs-alike f e es (alike h)
    either false h = let e : 1 + length (dedup_from same_pattern f es) ≡ suc (length (dedup_from same_pattern f es)) = omega arith in e

counts-more : (o f : Object) (fs : List Object) (kind : Object) → kind ≡ counted f fs → joined o kind ≡ counted o (f ∷ fs)
counts-more o f fs kind e =
    ap (joined o) e
    ∙ ap₂ (λ (c : ℕ) (n : ℕ). record o { count = c; patterns = n })
    (capped-sum o.count (sum_by (λ p. p.count) (f ∷ fs)) ∙ ap capped (sym (sum_by-cons (λ (p : Object). p.count) o (f ∷ fs))))
    (capped-sum (if same_pattern o.first f.first then 0 else 1) (length (dedup_from same_pattern f.first (map (λ p. p.first) fs)))
    ∙ ap capped (runs-more o.first f.first (map (λ p. p.first) fs)))

-- a kind that is counted stays so with an object of another kind before it
counted-behind : (o : Object) (os : List Object) (kind : Object) → same_kind kind o ≡ false → IsCounted os kind → IsCounted (o ∷ os) kind
counted-behind o os kind other is = record {
  first = is.first;
  others = is.others;
  told = ap (λ (b : Bool). cond b (o ∷ filter (same_kind kind) os) (filter (same_kind kind) os)) other ∙ is.told;
  is = is.is;
}

all-behind : (o : Object) (os kinds : List Object) → All (λ k. same_kind k o ≡ false) kinds → All (IsCounted os) kinds → All (IsCounted (o ∷ os)) kinds
all-behind o os kinds others each = λ k d small. counted-behind o os (slice_index_or kinds k d) (others k d small) (each k d small)

each-more : (o p : Object) (ps : List Object) → AreInKinds (o ∷ (p ∷ ps)) → All (IsCounted (p ∷ ps)) (grouped (p ∷ ps))
    → All (IsCounted (o ∷ (p ∷ ps))) (grouped (o ∷ (p ∷ ps)))
each-more o p ps h rest = subst (λ kinds. All (IsCounted (o ∷ (p ∷ ps))) (with_told o kinds)) (sym head.are) (go (same_kind o head.kind) refl)
  where
    head : Heads p (grouped (p ∷ ps))
    head = heads p ps

    inner : All (IsCounted (p ∷ ps)) (head.kind ∷ head.others)
    inner = subst (All (IsCounted (p ∷ ps))) head.are rest

    first : IsCounted (p ∷ ps) head.kind
    first = inner 0 head.kind (omega arith)

    same : same_kind o head.kind ≡ same_kind o p
    same = ap₂ (λ c r. pointwise nat_eq o.code.now c.now && pointwise nat_eq o.rule.now r.now) head.code head.rule

    own : same_kind p head.kind ≡ true
    own = ap₂ (λ c r. pointwise nat_eq p.code.now c.now && pointwise nat_eq p.rule.now r.now) head.code head.rule ∙ same-itself p

    apart : All (λ k. same_kind p k ≡ false) head.others
    apart =
        let once = ap (count_by (same_kind p)) (sym head.are) ∙ once-grouped (p ∷ ps) h.1 0 p (omega arith) in
        let sum = sym (count-cons (same_kind p) head.kind head.others) ∙ once in
        let one = ap (λ b. one-if b + count_by (same_kind p) head.others) (sym own) ∙ sum in
        count-none (same_kind p) head.others (omega (arith, one))

    go : (b : Bool) → same_kind o head.kind ≡ b → All (IsCounted (o ∷ (p ∷ ps))) (if b then joined o head.kind ∷ head.others else alone o ∷ (head.kind ∷ head.others))
    go true e =
        All-cons (IsCounted (o ∷ (p ∷ ps))) (joined o head.kind) head.others (record {
          first = o;
          others = first.first ∷ first.others;
          told = ap (λ (b : Bool). cond b (o ∷ filter (same_kind o) (p ∷ ps)) (filter (same_kind o) (p ∷ ps))) (same-itself o)
              ∙ ap (λ os. o ∷ os) (filter_agree (same_kind o) (same_kind head.kind) (λ x. same-alike o head.kind x e) (p ∷ ps) ∙ first.told);
          is = counts-more o first.first first.others head.kind first.is;
        })
        (all-behind o (p ∷ ps) head.others
        (λ k d small. let x = slice_index_or head.others k d in same-right x o p (sym same ∙ e) ∙ same-back x p ∙ apart k d small)
        (All-tail (IsCounted (p ∷ ps)) head.kind head.others inner))
    go false e =
        let further = no-further o p ps h (sym same ∙ e) in
        let none = subst (All (λ k. same_kind o k ≡ false)) head.are (none-grouped o (p ∷ ps) further) in
        All-cons (IsCounted (o ∷ (p ∷ ps))) (alone o) (head.kind ∷ head.others) (record {
          first = o;
          others = [];
          told = ap (λ (b : Bool). cond b (o ∷ filter (same_kind o) (p ∷ ps)) (filter (same_kind o) (p ∷ ps))) (same-itself o)
              ∙ ap (λ os. o ∷ os) (filter-none (same_kind o) (p ∷ ps) further);
          is = counts-one o;
        })
        (all-behind o (p ∷ ps) (head.kind ∷ head.others) (λ k d small. same-back (slice_index_or (head.kind ∷ head.others) k d) o ∙ none k d small) inner)

pub each-grouped : (os : List Object) → AreInKinds os → All (IsCounted os) (grouped os)
each-grouped [] h = All-nil (IsCounted [])
each-grouped (o ∷ []) h =
    All-cons (IsCounted (o ∷ [])) (alone o) [] (record {
      first = o;
      others = [];
      told = ap (λ (b : Bool). cond b (o ∷ []) []) (same-itself o);
      is = counts-one o;
    }) (All-nil (IsCounted (o ∷ [])))
each-grouped (o ∷ (p ∷ ps)) h = each-more o p ps h (each-grouped (p ∷ ps) h.1)

-- ---- sorts

-- objects at places, in the order of their kinds
module _ (told : Place → Object) where
  pub places-in-kinds : (ps : List Place) → Rises (λ p q. is_gt (kind_cmp (told p) (told q)) ≡ false) ps → AreInKinds (map told ps)
  places-in-kinds [] h = tt
  places-in-kinds (p ∷ ps) h = (All-from_recursion (λ o. is_gt (kind_cmp (told p) o) ≡ false) (map told ps) (behind p ps h.0), places-in-kinds ps h.1)
    where
      behind : (p : Place) (ps : List Place) → AllByRecursion (λ q. is_gt (kind_cmp (told p) (told q)) ≡ false) ps → AllByRecursion (λ o. is_gt (kind_cmp (told p) o) ≡ false) (map told ps)
      behind p [] h = tt
      behind p (q ∷ qs) h = (h.0, behind p qs h.1)

  one-kind : (kind o p : Object) → same_kind kind o ≡ true → same_kind kind p ≡ true → kind_cmp o p ≡ Equal
  one-kind kind o p a b = (Equal-is (kind_cmp o p)).0 (sym (same_is o p) ∙ sym (same-alike kind o p a) ∙ b)

  pub kind-level : (kind : Object) (p q : Place) → same_kind kind (told p) ≡ true → same_kind kind (told q) ≡ true → kind_cmp (told p) (told q) ≡ Equal
  kind-level kind p q = one-kind kind (told p) (told q)

  pub places-stable : (ps qs : List Place) (kind : Object) → filter (λ p. same_kind kind (told p)) qs ≡ filter (λ p. same_kind kind (told p)) ps
      → filter (same_kind kind) (map told qs) ≡ filter (same_kind kind) (map told ps)
  places-stable ps qs kind same = filter-map (same_kind kind) told qs ∙ ap (map told) same ∙ sym (filter-map (same_kind kind) told ps)

-- ---- the order of kinds by how many objects they have

turned : IsTotalOrder (λ (a b : ℕ). nat_cmp b a)
turned = record {
  antisymm = λ x y. nat_cmp_total.antisymm y x;
  trans = λ x y z e f. nat_cmp_total.trans z y x f e;
  congr = λ x y z e. nat_cmp_total.antisymm z x ∙ ap ordering_reverse (sym (nat_cmp_total.congr y x z e)) ∙ sym (nat_cmp_total.antisymm z y);
}

rank_total : (rare : Bool) → IsTotalOrder (rank_cmp rare)
rank_total false = turned
rank_total true = nat_cmp_total

count_total : (rare : Bool) → IsTotalOrder (count_cmp rare)
count_total rare = then_total (on_total (λ (o : Object). o.count) (rank_total rare)) kind_total

-- what a sort by count gives, where kinds are held like this
module _ {P : Type 0} (rare : Bool) (told : P → Object) where
  abbrev pub count-less : P → P → Bool
  count-less one other = is_lt (count_cmp rare (told one) (told other))

  pub counts-order : IsStrictWeakOrder count-less
  counts-order = ranks_by (count_total rare) told

  pub counts-sorted : (ps : List P) → IsSortedBy count-less ps → IsSorted (count_cmp rare) (map told ps)
  counts-sorted [] up = λ k d low small. absurd (omega (arith, small))
  counts-sorted (p ∷ ps) up = λ k d low small.
      let all = p ∷ ps in
      let more : k + 1 < length all = omega (arith, small, length-map all told) in
      ap₂ (λ a b. is_lt (count_cmp rare a b)) (get_or-map told all (k + 1) p d more) (get_or-map told all k p d (omega (arith, more))) ∙ up k p low more

-- what two sorts and the step between them give
pub are-kinds : (rare : Bool) (objects sorted stack kinds : List Object) → IsPermutation objects sorted
    → ((kind : Object) → filter (same_kind kind) sorted ≡ filter (same_kind kind) objects) → AreInKinds sorted → reverse stack ≡ grouped sorted
    → IsPermutation stack kinds → IsSorted (count_cmp rare) kinds → AreKinds rare objects kinds
are-kinds rare objects sorted stack kinds moved stable up are moved-on ordered = record {
  each = All-permutation (IsCounted objects) (grouped sorted) kinds whole (λ k d small.
      let is = each-grouped sorted up k d small in
      record { first = is.first; others = is.others; told = sym (stable (slice_index_or (grouped sorted) k d)) ∙ is.told; is = is.is });
  once = All-permutation (λ o. count_by (same_kind o) kinds ≡ 1) sorted objects (IsPermutation-sym objects sorted moved) (λ k d small.
      let o = slice_index_or sorted k d in
      sum_by-IsPermutation (λ x. cond (same_kind o x) 1 0) (grouped sorted) kinds whole ∙ once-grouped sorted up k d small);
  ordered = ordered;
}
  where
    whole : IsPermutation (grouped sorted) kinds
    whole = IsPermutation-trans (grouped sorted) stack kinds
        (subst (λ w. IsPermutation w stack) are (IsPermutation-sym stack (reverse stack) (IsPermutation-reverse stack))) moved-on
