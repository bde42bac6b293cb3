-- Lists in an order of two parts: what is level in the first part is in the order of the second.
use Rattle.std.proofs.Common.{◌≡◌, ◌⊎◌, inl, inr, ℕ, ◌+◌, zero, suc, ◌<◌, ◌≤◌, take, drop, Bool, true, false, not, cond, List, [], ◌∷◌, ◌++◌, filter, length, get_or, set, swap, refl, sym, ap, ap₂, ◌∙◌, subst, arith, append_assoc, true≢false}
use Rattle.std.specs.Cmp.{IsStrictWeakOrder, IsTotalOrder}
use Rattle.std.specs.List.{prefix_len, AllByRecursion}
use Rattle.std.specs.List.Sorted.{IsPermutation, IsSortedBy}
use Rattle.std.specs.Ordering.{is_eq, is_gt, is_lt, ordering_reverse, ordering_then}
use Rattle.std.specs.declared.cmp.Ordering.{Ordering}
use Rattle.std.specs.declared.cmp.Ordering.TheVariants.{Less, Equal, Greater}
use Rattle.census_table.specs.Places.{Rises}
use Rattle.census_rows.proofs.Filters.{filter-none}
pub use Rattle.census_rows.proofs.Filters.{filter-map as filter-of}
use Rattle.std.proofs.lemmas.Cmp.{alike_right, tied_itself}
use Rattle.std.proofs.lemmas.List.{append-nil, length-append, length-take-le, take-append-drop, take_all}
use Rattle.std.proofs.lemmas.List.Elements.{recursion_from_All, All-from_recursion}
use Rattle.std.proofs.lemmas.List.Sorted.{length_permutation, ranks_by, sorted_far, All-permutation, IsPermutation-append_comm, IsPermutation-append_left, IsPermutation-append_right, IsPermutation-keeps, IsPermutation-refl, IsPermutation-trans}

-- ---- lists that rise

module _ {X : Type 0} where
  pub all-weaker : (P Q : X → Type 0) → ((x : X) → P x → Q x) → (xs : List X) → AllByRecursion P xs → AllByRecursion Q xs
  all-weaker P Q f [] h = tt
  all-weaker P Q f (x ∷ xs) h = (f x h.0, all-weaker P Q f xs h.1)

  pub all-more : (P : X → Type 0) (xs : List X) (y : X) → AllByRecursion P xs → P y → AllByRecursion P (xs ++ y ∷ [])
  all-more P [] y h k = (k, tt)
  all-more P (x ∷ xs) y h k = (h.0, all-more P xs y h.1 k)

  pub rises-more : (R : X → X → Type 0) (xs : List X) (y : X) → Rises R xs → AllByRecursion (λ x. R x y) xs → Rises R (xs ++ y ∷ [])
  rises-more R [] y up below = (tt, tt)
  rises-more R (x ∷ xs) y up below = (all-more (R x) xs y up.0 below.0, rises-more R xs y up.1 below.1)

  all-filter : (P : X → Type 0) (p : X → Bool) (xs : List X) → AllByRecursion P xs → AllByRecursion P (filter p xs)
  all-filter P p [] h = tt
  all-filter P p (x ∷ xs) h =
      elim (p x) as (λ b. AllByRecursion P (cond b (x ∷ filter p xs) (filter p xs))) [ true ↦ (h.0, all-filter P p xs h.1) | false ↦ all-filter P p xs h.1 ]

  rises-filter : (R : X → X → Type 0) (p : X → Bool) (xs : List X) → Rises R xs → Rises R (filter p xs)
  rises-filter R p [] up = tt
  rises-filter R p (x ∷ xs) up =
      elim (p x) as (λ b. Rises R (cond b (x ∷ filter p xs) (filter p xs)))
      [ true ↦ (all-filter (R x) p xs up.0, rises-filter R p xs up.1) | false ↦ rises-filter R p xs up.1 ]

  -- all that a filter keeps pass its test
  passed : (p : X → Bool) (xs : List X) → AllByRecursion (λ x. p x ≡ true) (filter p xs)
  passed p [] = tt
  passed p (x ∷ xs) = go (p x) refl (passed p xs)
    where
      go : (b : Bool) → p x ≡ b → AllByRecursion (λ y. p y ≡ true) (filter p xs) → AllByRecursion (λ y. p y ≡ true) (cond b (x ∷ filter p xs) (filter p xs))
      go true e more = (e, more)
      go false e more = more

  all-both : (P Q R : X → Type 0) → ((x : X) → P x → Q x → R x) → (xs : List X) → AllByRecursion P xs → AllByRecursion Q xs → AllByRecursion R xs
  all-both P Q R f [] h k = tt
  all-both P Q R f (x ∷ xs) h k = (f x h.0 k.0, all-both P Q R f xs h.1 k.1)

  -- where all pass a test, another relation holds of each two that pass it
  rises-where : (P : X → Type 0) (R S : X → X → Type 0) → ((a b : X) → P a → P b → R a b → S a b) → (xs : List X) → AllByRecursion P xs → Rises R xs → Rises S xs
  rises-where P R S f [] h up = tt
  rises-where P R S f (x ∷ xs) h up = (all-both P (R x) (S x) (λ y p r. f x y h.0 p r) xs h.1 up.0, rises-where P R S f xs h.1 up.1)

  filter-all : (p : X → Bool) (xs : List X) → AllByRecursion (λ x. p x ≡ true) xs → filter p xs ≡ xs
  filter-all p [] h = refl
  filter-all p (x ∷ xs) h = rw (h.0, filter-all p xs h.1)

-- ---- a filter and another order

-- A relation holds along each permutation if it is reflexive and transitive, and holds under a common head and for an
-- exchange of two heads.
module _ {X : Type 0} (R : List X → List X → Type 0) (same : (xs : List X) → R xs xs)
    (skip : (x : X) (xs ys : List X) → R xs ys → R (x ∷ xs) (x ∷ ys))
    (turn : (x y : X) (xs : List X) → R (x ∷ y ∷ xs) (y ∷ x ∷ xs))
    (chain : (xs ys zs : List X) → R xs ys → R ys zs → R xs zs) where
  to-head : (l : List X) (j : ℕ) (x d : X) → j < length l → R (x ∷ l) (get_or l j d ∷ set l j x)
  to-head [] j x d h = absurd (omega arith)
  to-head (y ∷ l) zero x d h = turn x y l
  to-head (y ∷ l) (suc j) x d h =
      chain _ _ _ (turn x y l) (chain _ _ _ (skip y _ _ (to-head l j x d (omega arith))) (turn y (get_or l j d) (set l j x)))

  exchanged : (l : List X) (i j : ℕ) (d : X) → i < length l → j < length l → R l (set (set l i (get_or l j d)) j (get_or l i d))
  exchanged [] i j d a b = absurd (omega arith)
  exchanged (x ∷ l) zero zero d a b = same (x ∷ l)
  exchanged (x ∷ l) zero (suc j) d a b = to-head l j x d (omega arith)
  exchanged (x ∷ l) (suc i) zero d a b = to-head l i x d (omega arith)
  exchanged (x ∷ l) (suc i) (suc j) d a b = skip x _ _ (exchanged l i j d (omega arith) (omega arith))

  swapped : (l : List X) (i j : ℕ) → i < length l → j < length l → R l (swap l i j)
  swapped [] i j a b = same []
  swapped (x ∷ l) i j a b = exchanged (x ∷ l) i j x a b

  along : (xs ys : List X) → IsPermutation xs ys → R xs ys
  along xs = IsPermutation-keeps xs (R xs) (same xs) (λ l i j a b h. chain xs l _ h (swapped l i j a b))

module _ {X : Type 0} (p : X → Bool) where
  abbrev one : X → List X
  one x = cond (p x) (x ∷ []) []

  in-front : (x : X) (xs : List X) → filter p (x ∷ xs) ≡ one x ++ filter p xs
  in-front x xs = elim (p x) as (λ b. cond b (x ∷ filter p xs) (filter p xs) ≡ cond b (x ∷ []) [] ++ filter p xs) [ true ↦ refl | false ↦ refl ]

  two-in-front : (x y : X) (xs : List X) → filter p (x ∷ y ∷ xs) ≡ (one x ++ one y) ++ filter p xs
  two-in-front x y xs = in-front x (y ∷ xs) ∙ ap (λ l. one x ++ l) (in-front y xs) ∙ sym (append_assoc (one x) (one y) (filter p xs))

  skipped : (x : X) (xs ys : List X) → IsPermutation (filter p xs) (filter p ys) → IsPermutation (filter p (x ∷ xs)) (filter p (x ∷ ys))
  skipped x xs ys h =
      subst (λ l. IsPermutation l (filter p (x ∷ ys))) (sym (in-front x xs))
      (subst (λ l. IsPermutation (one x ++ filter p xs) l) (sym (in-front x ys)) (IsPermutation-append_right (one x) (filter p xs) (filter p ys) h))

  turned : (x y : X) (xs : List X) → IsPermutation (filter p (x ∷ y ∷ xs)) (filter p (y ∷ x ∷ xs))
  turned x y xs =
      subst (λ l. IsPermutation l (filter p (y ∷ x ∷ xs))) (sym (two-in-front x y xs))
      (subst (λ l. IsPermutation ((one x ++ one y) ++ filter p xs) l) (sym (two-in-front y x xs))
      (IsPermutation-append_left (filter p xs) (one x ++ one y) (one y ++ one x) (IsPermutation-append_comm (one x) (one y))))

  pub filter-permutation : (xs ys : List X) → IsPermutation xs ys → IsPermutation (filter p xs) (filter p ys)
  filter-permutation = along (λ xs ys. IsPermutation (filter p xs) (filter p ys))
      (λ xs. IsPermutation-refl (filter p xs)) skipped turned
      (λ xs ys zs. IsPermutation-trans (filter p xs) (filter p ys) (filter p zs))

-- ---- one order alone

module _ {X : Type 0} (cmp : X → X → Ordering) (total : IsTotalOrder cmp) where
  abbrev AtMost : X → X → Type 0
  AtMost a b = is_gt (cmp a b) ≡ false

  abbrev is-above : X → X → Bool
  is-above x z = is_lt (cmp x z)

  still-above : (x y z : X) → is-above x y ≡ true → AtMost y z → is-above x z ≡ true
  still-above x y z h up = go (cmp x y) (cmp y z) refl refl h up
    where
      go : (a b : Ordering) → cmp x y ≡ a → cmp y z ≡ b → is_lt a ≡ true → is_gt b ≡ false → is-above x z ≡ true
      go Less Less p q s t = ap is_lt (total.trans x y z p q)
      go Less Equal p q s t = ap is_lt (sym (alike_right total y z x q) ∙ p)
      go Less Greater p q s t = absurd (true≢false t)
      go Equal b p q s t = absurd (true≢false (sym s))
      go Greater b p q s t = absurd (true≢false (sym s))

  -- a list that does not fall is the elements not above x, and then those above it
  split : (x : X) (ys : List X) → Rises AtMost ys → ys ≡ filter (λ z. not (is-above x z)) ys ++ filter (is-above x) ys
  split x [] up = refl
  split x (y ∷ ys) up = go (is-above x y) refl (split x ys up.1)
    where
      go : (b : Bool) → is-above x y ≡ b → ys ≡ filter (λ z. not (is-above x z)) ys ++ filter (is-above x) ys
          → y ∷ ys ≡ filter (λ z. not (is-above x z)) (y ∷ ys) ++ filter (is-above x) (y ∷ ys)
      go false e more = rw e (ap (λ l. y ∷ l) more)
      go true e more =
          let above = all-weaker _ (λ z. is-above x z ≡ true) (λ z. still-above x y z e) ys up.0 in
          rw (e, filter-none (λ z. not (is-above x z)) ys (All-from_recursion (λ z. not (is-above x z) ≡ false) ys (all-weaker _ (λ z. not (is-above x z) ≡ false) (λ z h. ap not h) ys above)), filter-all _ ys above)

  alone : (x : X) (ys : List X) → IsPermutation (x ∷ []) ys → ys ≡ x ∷ []
  alone x [] moved = absurd (omega (arith, length_permutation _ _ moved))
  alone x (y ∷ []) moved = ap (λ z. z ∷ []) (recursion_from_All (λ z. z ≡ x) (y ∷ []) (All-permutation (λ z. z ≡ x) (x ∷ []) (y ∷ []) moved (All-from_recursion (λ z. z ≡ x) (x ∷ []) (refl, tt)))).0
  alone x (y ∷ z ∷ ys) moved = absurd (omega (arith, length_permutation _ _ moved))

  -- Of the orders of a list without ties, one does not fall: its head is all that is not above the head.
  pub one-order : (xs ys : List X) → Rises (λ a b. cmp a b ≡ Less) xs → IsPermutation xs ys → Rises AtMost ys → ys ≡ xs
  one-order [] [] strict moved up = refl
  one-order [] (y ∷ ys) strict moved up = absurd (omega (arith, length_permutation _ _ moved))
  one-order (x ∷ xs) ys strict moved up =
      let here : is-above x x ≡ false = ap is_lt (tied_itself total x) in
      let above = all-weaker _ (λ z. is-above x z ≡ true) (λ z h. ap is_lt h) xs strict.0 in
      let first : filter (λ z. not (is-above x z)) (x ∷ xs) ≡ x ∷ [] =
      rw (here, filter-none (λ z. not (is-above x z)) xs (All-from_recursion (λ z. not (is-above x z) ≡ false) xs (all-weaker _ (λ z. not (is-above x z) ≡ false) (λ z h. ap not h) xs above))) in
      let later : filter (is-above x) (x ∷ xs) ≡ xs = rw (here, filter-all _ xs above) in
      let head = alone x _ (subst (λ l. IsPermutation l (filter (λ z. not (is-above x z)) ys)) first (filter-permutation (λ z. not (is-above x z)) _ _ moved)) in
      let tail = one-order xs _ strict.1 (subst (λ l. IsPermutation l (filter (is-above x) ys)) later (filter-permutation (is-above x) _ _ moved)) (rises-filter AtMost _ ys up) in
      split x ys up ∙ ap₂ ◌++◌ head tail

-- ---- lists that do not fall

pub lt-back : (r : Ordering) → is_lt (ordering_reverse r) ≡ is_gt r
lt-back Less = refl
lt-back Equal = refl
lt-back Greater = refl

not-greater : (r : Ordering) → is_gt r ≡ false → (r ≡ Less) ⊎ (r ≡ Equal)
not-greater Less h = inl refl
not-greater Equal h = inr refl
not-greater Greater h = absurd (true≢false h)

module _ {X : Type 0} (cmp : X → X → Ordering) (total : IsTotalOrder cmp) where
  abbrev pub is-less : X → X → Bool
  is-less a b = is_lt (cmp a b)

  pub less-order : IsStrictWeakOrder is-less
  less-order = ranks_by total (λ x. x)

  all-behind : (x : X) (xs : List X) → ((j : ℕ) (d : X) → j < length xs → is-less (get_or xs j d) x ≡ false) → AllByRecursion (λ y. is_gt (cmp x y) ≡ false) xs
  all-behind x [] h = tt
  all-behind x (y ∷ ys) h = (
    sym (lt-back (cmp x y)) ∙ ap is_lt (sym (total.antisymm y x)) ∙ h zero y (omega arith),
    all-behind x ys (λ j d less. h (suc j) d (omega (arith, less))),
  )

  -- what is sorted does not fall
  pub not-falling : (xs : List X) → IsSortedBy is-less xs → Rises (λ a b. is_gt (cmp a b) ≡ false) xs
  not-falling xs up = go xs (λ i j d less small. sorted_far is-less less-order xs up i j d less small)
    where
      go : (xs : List X) → ((i j : ℕ) (d : X) → i ≤ j → j < length xs → is-less (get_or xs j d) (get_or xs i d) ≡ false) → Rises (λ a b. is_gt (cmp a b) ≡ false) xs
      go [] h = tt
      go (x ∷ xs) h = (
        all-behind x xs (λ j d less. h zero (suc j) d (omega arith) (omega (arith, less))),
        go xs (λ i j d less small. h (suc i) (suc j) d (omega (arith, less)) (omega (arith, small))),
      )

  level-less : (x y z : X) → cmp x y ≡ Equal → cmp x z ≡ Less → cmp y z ≡ Less
  level-less x y z e l = sym (total.congr x y z e) ∙ l

  level-both : (x y z : X) → cmp x y ≡ Equal → cmp x z ≡ Equal → cmp y z ≡ Equal
  level-both x y z e l = sym (total.congr x y z e) ∙ l

  less-on : (x y z : X) → cmp x y ≡ Less → is_gt (cmp y z) ≡ false → cmp x z ≡ Less
  less-on x y z l h = go (not-greater (cmp y z) h)
    where
      go : (cmp y z ≡ Less) ⊎ (cmp y z ≡ Equal) → cmp x z ≡ Less
      go (inl m) = total.trans x y z l m
      go (inr e) = sym (alike_right total y z x e) ∙ l

  -- of elements that do not fall and none of which is before x, those level with x come first, and x is less than all after
  -- them
  pub record IsRun (x : X) (xs : List X) (n : ℕ) : Type 0 where
    pub level : AllByRecursion (λ y. cmp x y ≡ Equal) (take n xs)
    pub beyond : AllByRecursion (λ y. cmp x y ≡ Less) (drop n xs)

  pub run : (x : X) (xs : List X) → AllByRecursion (λ y. is_gt (cmp x y) ≡ false) xs → Rises (λ a b. is_gt (cmp a b) ≡ false) xs
      → IsRun x xs (prefix_len (λ y. is_eq (cmp x y)) xs)
  run x [] h up = record { level = tt; beyond = tt }
  run x (y ∷ ys) h up = go (not-greater (cmp x y) h.0) (run x ys h.1 up.1)
    where
      go : (cmp x y ≡ Less) ⊎ (cmp x y ≡ Equal) → IsRun x ys (prefix_len (λ z. is_eq (cmp x z)) ys) → IsRun x (y ∷ ys) (prefix_len (λ z. is_eq (cmp x z)) (y ∷ ys))
      go (inl l) more =
          subst (λ b. IsRun x (y ∷ ys) (cond b (1 + prefix_len (λ z. is_eq (cmp x z)) ys) 0)) (sym (ap is_eq l))
          (record { level = tt; beyond = (l, all-weaker (λ z. is_gt (cmp y z) ≡ false) (λ z. cmp x z ≡ Less) (λ z p. less-on x y z l p) ys up.0) })
      go (inr e) more =
          let one : suc (prefix_len (λ z. is_eq (cmp x z)) ys) ≡ 1 + prefix_len (λ z. is_eq (cmp x z)) ys = omega arith in
          subst (λ b. IsRun x (y ∷ ys) (cond b (1 + prefix_len (λ z. is_eq (cmp x z)) ys) 0)) (sym (ap is_eq e))
          (subst (IsRun x (y ∷ ys)) one (record { level = (e, more.level); beyond = more.beyond }))

-- ---- an order of two parts

first-part : (r s : Ordering) → is_gt (ordering_then r s) ≡ false → is_gt r ≡ false
first-part Less s h = refl
first-part Equal s h = refl
first-part Greater s h = h

second-part : (r s : Ordering) → r ≡ Equal → is_gt (ordering_then r s) ≡ false → is_gt s ≡ false
second-part r s e h = subst (λ t. is_gt (ordering_then t s) ≡ false) e h

from-less : (r s : Ordering) → r ≡ Less → is_gt (ordering_then r s) ≡ false
from-less r s l = subst (λ t. is_gt (ordering_then t s) ≡ false) (sym l) refl

from-level : (r s : Ordering) → r ≡ Equal → is_gt s ≡ false → is_gt (ordering_then r s) ≡ false
from-level r s e h = subst (λ t. is_gt (ordering_then t s) ≡ false) (sym e) h

all-append : {X : Type 0} (P : X → Type 0) (xs ys : List X) → AllByRecursion P xs → AllByRecursion P ys → AllByRecursion P (xs ++ ys)
all-append P [] ys h k = k
all-append P (x ∷ xs) ys h k = (h.0, all-append P xs ys h.1 k)

rises-append : {X : Type 0} (R : X → X → Type 0) (xs ys : List X) → Rises R xs → Rises R ys → AllByRecursion (λ x. AllByRecursion (R x) ys) xs → Rises R (xs ++ ys)
rises-append R [] ys h k across = k
rises-append R (x ∷ xs) ys h k across = (all-append (R x) xs ys h.0 across.0, rises-append R xs ys h.1 k across.1)

rises-drop : {X : Type 0} (R : X → X → Type 0) (n : ℕ) (xs : List X) → Rises R xs → Rises R (drop n xs)
rises-drop R zero xs up = up
rises-drop R (suc n) [] up = tt
rises-drop R (suc n) (x ∷ xs) up = rises-drop R n xs up.1

all-drop : {X : Type 0} (P : X → Type 0) (n : ℕ) (xs : List X) → AllByRecursion P xs → AllByRecursion P (drop n xs)
all-drop P zero xs h = h
all-drop P (suc n) [] h = tt
all-drop P (suc n) (x ∷ xs) h = all-drop P n xs h.1

all-take : {X : Type 0} (P : X → Type 0) (n : ℕ) (xs : List X) → AllByRecursion P xs → AllByRecursion P (take n xs)
all-take P zero xs h = tt
all-take P (suc n) [] h = tt
all-take P (suc n) (x ∷ xs) h = (h.0, all-take P n xs h.1)

all-moved : {X : Type 0} (P : X → Type 0) (xs ys : List X) → IsPermutation xs ys → AllByRecursion P xs → AllByRecursion P ys
all-moved P xs ys moved h = recursion_from_All P ys (All-permutation P xs ys moved (All-from_recursion P xs h))

-- each of the first list is less than each of the second
abbrev pub AreAllBelow : {X : Type 0} → (X → X → Ordering) → List X → List X → Type 0
AreAllBelow cmp xs ys = AllByRecursion (λ x. AllByRecursion (λ y. cmp x y ≡ Less) ys) xs

module _ {X : Type 0} (first second : X → X → Ordering) (first-total : IsTotalOrder first) (second-total : IsTotalOrder second) where
  abbrev pub BothRise : List X → Type 0
  BothRise xs = Rises (λ a b. is_gt (ordering_then (first a b) (second a b)) ≡ false) xs

  pub first-rises : (xs : List X) → BothRise xs → Rises (λ a b. is_gt (first a b) ≡ false) xs
  first-rises [] up = tt
  first-rises (x ∷ xs) up = (
    all-weaker (λ y. is_gt (ordering_then (first x y) (second x y)) ≡ false) (λ y. is_gt (first x y) ≡ false) (λ y. first-part (first x y) (second x y)) xs up.0,
    first-rises xs up.1,
  )

  -- What is level in the first part, among elements in the order of the second, keeps its order.
  pub level-kept : (test : X → Bool) → ((a b : X) → test a ≡ true → test b ≡ true → first a b ≡ Equal) → (xs ys : List X)
      → Rises (λ a b. second a b ≡ Less) xs → IsPermutation xs ys → BothRise ys → filter test ys ≡ filter test xs
  level-kept test level xs ys strict moved up =
      one-order second second-total (filter test xs) (filter test ys)
      (rises-filter (λ a b. second a b ≡ Less) test xs strict)
      (filter-permutation test xs ys moved)
      (rises-where (λ x. test x ≡ true) (λ a b. is_gt (ordering_then (first a b) (second a b)) ≡ false) (λ a b. is_gt (second a b) ≡ false)
      (λ a b p q. second-part (first a b) (second a b) (level a b p q)) (filter test ys) (passed test ys)
      (rises-filter (λ a b. is_gt (ordering_then (first a b) (second a b)) ≡ false) test ys up))

  -- One more run: what was done is in both orders and less than what is left, and the run is put in the second order.
  module _ (done left run : List X) (n : ℕ) (x : X)
      (up : BothRise done) (below : AreAllBelow first done left) (is : IsRun first first-total x left n)
      (moved : IsPermutation (take n left) run) (sorted : Rises (λ a b. is_gt (second a b) ≡ false) run) where
    level : AllByRecursion (λ y. first x y ≡ Equal) run
    level = all-moved (λ y. first x y ≡ Equal) (take n left) run moved is.level

    run-up : BothRise run
    run-up =
        rises-where (λ y. first x y ≡ Equal) (λ a b. is_gt (second a b) ≡ false) (λ a b. is_gt (ordering_then (first a b) (second a b)) ≡ false)
        (λ a b p q h. from-level (first a b) (second a b) (level-both first first-total x a b p q) h) run level sorted

    pub more-up : BothRise (done ++ run)
    more-up =
        rises-append (λ a b. is_gt (ordering_then (first a b) (second a b)) ≡ false) done run up run-up
        (all-weaker (λ a. AllByRecursion (λ b. first a b ≡ Less) left) (λ a. AllByRecursion (λ b. is_gt (ordering_then (first a b) (second a b)) ≡ false) run)
        (λ a h. all-weaker (λ b. first a b ≡ Less) (λ b. is_gt (ordering_then (first a b) (second a b)) ≡ false) (λ b. from-less (first a b) (second a b)) run
        (all-moved (λ b. first a b ≡ Less) (take n left) run moved (all-take (λ b. first a b ≡ Less) n left h))) done below)

    pub more-below : AreAllBelow first (done ++ run) (drop n left)
    more-below =
        all-append (λ a. AllByRecursion (λ b. first a b ≡ Less) (drop n left)) done run
        (all-weaker (λ a. AllByRecursion (λ b. first a b ≡ Less) left) (λ a. AllByRecursion (λ b. first a b ≡ Less) (drop n left))
        (λ a h. all-drop (λ b. first a b ≡ Less) n left h) done below)
        (all-weaker (λ a. first x a ≡ Equal) (λ a. AllByRecursion (λ b. first a b ≡ Less) (drop n left))
        (λ a e. all-weaker (λ b. first x b ≡ Less) (λ b. first a b ≡ Less) (λ b. level-less first first-total x a b e) (drop n left) is.beyond) run level)

  pub left-up : (n : ℕ) (left : List X) → Rises (λ a b. is_gt (first a b) ≡ false) left → Rises (λ a b. is_gt (first a b) ≡ false) (drop n left)
  left-up n left up = rises-drop (λ a b. is_gt (first a b) ≡ false) n left up

-- ---- runs, one after another

module _ {X : Type 0} where
  take-past : (front back : List X) (n : ℕ) → take (length front + n) (front ++ back) ≡ front ++ take n back
  take-past [] back n = let none : 0 + n ≡ n = omega arith in ap (λ k. take k back) none
  take-past (x ∷ front) back n =
      let one : length (x ∷ front) + n ≡ suc (length front + n) = omega arith in
      ap (λ k. take k (x ∷ (front ++ back))) one ∙ ap (λ xs. x ∷ xs) (take-past front back n)

  drop-past : (front back : List X) (n : ℕ) → drop (length front + n) (front ++ back) ≡ drop n back
  drop-past [] back n = let none : 0 + n ≡ n = omega arith in ap (λ k. drop k back) none
  drop-past (x ∷ front) back n =
      let one : length (x ∷ front) + n ≡ suc (length front + n) = omega arith in
      ap (λ k. drop k (x ∷ (front ++ back))) one ∙ drop-past front back n

  pub take-front : (front back : List X) (n : ℕ) → length front ≡ n → take n (front ++ back) ≡ front
  take-front front back n long =
      let none : n ≡ length front + 0 = omega (arith, long) in
      ap (λ k. take k (front ++ back)) none ∙ take-past front back 0 ∙ append-nil front

  moved-front : (n : ℕ) (xs ys : List X) → IsPermutation (take n xs) (take n ys) → drop n ys ≡ drop n xs → IsPermutation xs ys
  moved-front n xs ys moved same =
      subst (λ l. IsPermutation l ys) (take-append-drop n xs)
      (subst (λ l. IsPermutation (take n xs ++ drop n xs) l) (ap (λ l. take n ys ++ l) (sym same) ∙ take-append-drop n ys)
      (IsPermutation-append_left (drop n xs) (take n xs) (take n ys) moved))

module _ {X : Type 0} (first second : X → X → Ordering) (first-total : IsTotalOrder first) (second-total : IsTotalOrder second) where
  -- the first `at` elements are in both orders, before all others
  pub record AreRun (start xs : List X) (at : ℕ) : Type 0 where
    pub within : at ≤ length xs
    pub moved : IsPermutation start xs
    pub done : BothRise first second first-total second-total (take at xs)
    pub left : Rises (λ a b. is_gt (first a b) ≡ false) (drop at xs)
    pub below : AreAllBelow first (take at xs) (drop at xs)

  pub runs-start : (start : List X) → Rises (λ a b. is_gt (first a b) ≡ false) start → AreRun start start 0
  runs-start start up = record { within = omega arith; moved = IsPermutation-refl start; done = tt; left = up; below = tt }

  head-level : (x : X) → first x x ≡ Equal
  head-level x = tied_itself first-total x

  run-of : (x : X) (xs : List X) → 0 < length xs → x ≡ get_or xs 0 x → Rises (λ a b. is_gt (first a b) ≡ false) xs
      → IsRun first first-total x xs (prefix_len (λ y. is_eq (first x y)) xs)
  run-of x [] some head up = absurd (omega (arith, some))
  run-of x (y ∷ ys) some head up =
      run first first-total x (y ∷ ys)
      (ap is_gt (ap (first x) (sym head) ∙ head-level x), subst (λ z. AllByRecursion (λ w. is_gt (first z w) ≡ false) ys) (sym head) up.0) up

  run-some : (x : X) (xs : List X) → 0 < length xs → x ≡ get_or xs 0 x → 0 < prefix_len (λ y. is_eq (first x y)) xs
  run-some x [] some head = absurd (omega (arith, some))
  run-some x (y ∷ ys) some head =
      subst (λ b. 0 < cond b (1 + prefix_len (λ z. is_eq (first x z)) ys) 0) (sym (ap is_eq (ap (first x) (sym head) ∙ head-level x))) (omega arith)

  runs-step : (start xs front back more : List X) (at n : ℕ) (x : X) → AreRun start xs at → front ≡ take at xs → back ≡ drop at xs
      → 0 < length back → x ≡ get_or back 0 x → n ≡ prefix_len (λ y. is_eq (first x y)) back → n ≤ length back
      → IsPermutation (take n back) (take n more) → Rises (λ a b. is_gt (second a b) ≡ false) (take n more) → drop n more ≡ drop n back
      → AreRun start (front ++ more) (at + n)
  runs-step start xs front back more at n x are front-is back-is some head n-is fits moved sorted others =
      let long : length front ≡ at = ap length front-is ∙ length-take-le at xs are.within in
      let left = subst (Rises (λ a b. is_gt (first a b) ≡ false)) (sym back-is) are.left in
      let done = subst (BothRise first second first-total second-total) (sym front-is) are.done in
      let below = subst (λ l. AreAllBelow first l back) (sym front-is) (subst (AreAllBelow first (take at xs)) (sym back-is) are.below) in
      let is = subst (IsRun first first-total x back) (sym n-is) (run-of x back some head left) in
      let up = more-up first second first-total second-total front back (take n more) n x done below is moved sorted in
      let under = more-below first second first-total second-total front back (take n more) n x done below is moved sorted in
      let taken : take (at + n) (front ++ more) ≡ front ++ take n more = ap (λ k. take (k + n) (front ++ more)) (sym long) ∙ take-past front more n in
      let dropped : drop (at + n) (front ++ more) ≡ drop n back = ap (λ k. drop (k + n) (front ++ more)) (sym long) ∙ drop-past front more n ∙ others in
      let whole = moved-front n back more moved others in
      let start-is : front ++ back ≡ xs = ap₂ (λ (a b : List X). a ++ b) front-is back-is ∙ take-append-drop at xs in (record {
        within = omega (arith, long, fits, length-append front more, length_permutation back more whole);
        moved = IsPermutation-trans start xs (front ++ more) are.moved (subst (λ l. IsPermutation l (front ++ more)) start-is (IsPermutation-append_right front back more whole));
        done = subst (BothRise first second first-total second-total) (sym taken) up;
        left = subst (Rises (λ a b. is_gt (first a b) ≡ false)) (sym dropped) (left-up first second first-total second-total n back left);
        below = subst (λ l. AreAllBelow first l (drop (at + n) (front ++ more))) (sym taken) (subst (AreAllBelow first (front ++ take n more)) (sym dropped) under);
      })

  pub run-length : (xs : List X) (n : ℕ) → 0 < length xs → ((x : X) → x ≡ get_or xs 0 x → n ≡ prefix_len (λ y. is_eq (first x y)) xs) → 0 < n
  run-length [] n some count = absurd (omega (arith, some))
  run-length (x ∷ xs) n some count = subst (λ k. 0 < k) (sym (count x refl)) (run-some x (x ∷ xs) some refl)

  pub runs-more : (start xs front back more : List X) (at n : ℕ) → AreRun start xs at → front ≡ take at xs → back ≡ drop at xs
      → 0 < length back → ((x : X) → x ≡ get_or back 0 x → n ≡ prefix_len (λ y. is_eq (first x y)) back) → n ≤ length back
      → IsPermutation (take n back) (take n more) → Rises (λ a b. is_gt (second a b) ≡ false) (take n more) → drop n more ≡ drop n back
      → AreRun start (front ++ more) (at + n)
  runs-more start xs front [] more at n are front-is back-is some count fits moved sorted others = absurd (omega (arith, some))
  runs-more start xs front (x ∷ back) more at n are front-is back-is some count fits moved sorted others =
      runs-step start xs front (x ∷ back) more at n x are front-is back-is some refl (count x refl) fits moved sorted others

  pub runs-end : (start xs : List X) (at : ℕ) → AreRun start xs at → length xs ≤ at → BothRise first second first-total second-total xs
  runs-end start xs at are past = subst (BothRise first second first-total second-total) (take_all at xs past) are.done
