-- Lists of which any two elements are related, and lists with the same elements.
use Rattle.std.proofs.Common.{◌≡◌, ◌≢◌, ℕ, zero, suc, ◌+◌, ◌<◌, List, [], ◌∷◌, ◌++◌, length, get_or, map, ◌⊎◌, inl, inr}
use Rattle.std.proofs.Common.{sym, refl, ap, subst, ◌∙◌, arith}
use Rattle.std.specs.List.{All, AllPairs, Contains, remove}
use Rattle.std.specs.List.Sorted.{IsPermutation}
use Rattle.std.proofs.lemmas.List.{get_or-map, length-map}
use Rattle.std.proofs.lemmas.List.Edits.{length-remove, get_or-remove_below, get_or-remove_above}
use Rattle.std.proofs.lemmas.List.Elements.{All-append, All-contains, All-contains_itself, All-map, All-weaker, at_from_Contains}
use Rattle.std.proofs.lemmas.List.Kept.{AllPairs-cons}
use Rattle.std.proofs.lemmas.List.Quantifiers.{all_pairs_remove}
use Rattle.std.proofs.lemmas.List.Sorted.{IsPermutation-refl, IsPermutation-sym, IsPermutation-cons}
use Rattle.std.proofs.lemmas.List.Sorted.{IsPermutation-trans, IsPermutation-remove, Contains-permutation}
use Rattle.std.proofs.lemmas.Bool.{cases_lt}

module _ {X : Type 0} where
  pub AllPairs-nil : (R : X → X → Type 0) → AllPairs R []
  AllPairs-nil R i j d h k = absurd (omega arith)

  pub AllPairs-head : (R : X → X → Type 0) (x : X) (xs : List X) → AllPairs R (x ∷ xs) → All (R x) xs
  AllPairs-head R x xs all k d h = all 0 (suc k) d (omega arith) (omega arith)

  pub AllPairs-tail : (R : X → X → Type 0) (x : X) (xs : List X) → AllPairs R (x ∷ xs) → AllPairs R xs
  AllPairs-tail R x xs all i j d h k = all (suc i) (suc j) d (omega arith) (omega arith)

  pub AllPairs-weaker : (R S : X → X → Type 0) → ((x y : X) → R x y → S x y) → (xs : List X) → AllPairs R xs →
      AllPairs S xs
  AllPairs-weaker R S weaker xs all i j d h k = weaker _ _ (all i j d h k)

pub AllPairs-map : {X Y : Type 0} (R : Y → Y → Type 0) (f : X → Y) (xs : List X) →
    AllPairs (λ x y. R (f x) (f y)) xs → AllPairs R (map f xs)
AllPairs-map R f [] all = AllPairs-nil R
AllPairs-map R f (x ∷ xs) all =
    AllPairs-cons R (f x) (map f xs) (All-map (R (f x)) f xs (AllPairs-head (λ a b. R (f a) (f b)) x xs all))
    (AllPairs-map R f xs (AllPairs-tail (λ a b. R (f a) (f b)) x xs all))

pub AllPairs-unmap : {X Y : Type 0} (R : Y → Y → Type 0) (f : X → Y) (xs : List X) → AllPairs R (map f xs) →
    AllPairs (λ x y. R (f x) (f y)) xs
AllPairs-unmap R f xs all i j d before within =
    let early : i < length xs = omega arith in
    subst (λ y. R y (f (get_or xs j d))) (get_or-map f xs i d (f d) early)
    (subst (R (get_or (map f xs) i (f d))) (get_or-map f xs j d (f d) within)
    (all i j (f d) before (omega (arith, length-map xs f))))

-- xs is x and the rest, and x is related to each of the rest
pub record IsSetAside {X : Type 0} (R : X → X → Type 0) (xs : List X) (x : X) : Type 0 where
  pub rest : List X
  pub order : IsPermutation xs (x ∷ rest)
  pub related : All (R x) rest
  pub pairs : AllPairs R rest

module _ {X : Type 0} where
  related_to_rest : (R : X → X → Type 0) → ((x y : X) → R x y → R y x) → (xs : List X) (x : X) (n : ℕ) →
      n < length xs → ((d : X) → get_or xs n d ≡ x) → AllPairs R xs → All (R x) (remove xs n)
  related_to_rest R swap xs x n l at all k d h =
      let long = length-remove xs n l in
      elim (cases_lt k n) [
        | inl below ↦
            rw (get_or-remove_below xs n d k below l)
            (swap _ _ (subst (R (get_or xs k d)) (at d) (all k n d below l)))
        | inr above ↦
            rw (get_or-remove_above xs n d k above l)
            (subst (λ y. R y (get_or xs (k + 1) d)) (at d) (all n (k + 1) d (omega arith) (omega arith)))
      ]

  -- an element of a list of which any two are related, whichever comes first
  pub set_aside : (R : X → X → Type 0) → ((x y : X) → R x y → R y x) → (xs : List X) (x : X) → Contains xs x →
      AllPairs R xs → IsSetAside R xs x
  set_aside R swap xs x one all =
      let place = at_from_Contains xs x one in
      record {
        rest = remove xs place.0;
        order = IsPermutation-remove xs place.0 x place.1 (sym (place.2 x));
        related = related_to_rest R swap xs x place.0 place.1 place.2 all;
        pairs = all_pairs_remove R xs place.0 place.1 all;
      }

  pub Contains-head : (x : X) (xs : List X) → Contains (x ∷ xs) x
  Contains-head x xs = (0, omega arith, refl)

  pub Contains-later : (x y : X) (xs : List X) → Contains xs y → Contains (x ∷ xs) y
  Contains-later x y xs one =
      let k = one.0 in
      let h : k < length xs = one.1 in
      (suc k, omega arith, one.2)

  pub head_or_later : (x y : X) (xs : List X) (k : ℕ) → k < length (x ∷ xs) → get_or (x ∷ xs) k y ≡ y →
      (x ≡ y) ⊎ Contains xs y
  head_or_later x y xs zero h e = inl e
  head_or_later x y xs (suc k) h e = inr (k, omega arith, e)

  pub not_the_head : (x y : X) (xs : List X) → Contains (x ∷ xs) y → x ≢ y → Contains xs y
  not_the_head x y xs one other =
      elim (head_or_later x y xs one.0 one.1 one.2) [ inl e ↦ absurd (other e) | inr later ↦ later ]

  -- of a list of which any two are related, two elements are so, or they are one
  pub related_or_same : (R : X → X → Type 0) → ((x y : X) → R x y → R y x) → (xs : List X) (x y : X) →
      Contains xs x → Contains xs y → AllPairs R xs → R x y ⊎ (x ≡ y)
  related_or_same R swap xs x y one two all =
      let p = at_from_Contains xs x one in
      let q = at_from_Contains xs y two in
      let between : (m n : ℕ) (a b : X) → m < n → n < length xs → get_or xs m x ≡ a → get_or xs n x ≡ b → R a b =
      λ m n a b h l e f. subst (R a) f (subst (λ z. R z (get_or xs n x)) e (all m n x h l)) in
      elim (cases_lt p.0 q.0) [
        | inl before ↦ inl (between p.0 q.0 x y before q.1 (p.2 x) (q.2 x))
        | inr not_before ↦ elim (cases_lt q.0 p.0) [
          | inl after ↦ inl (swap y x (between q.0 p.0 y x after p.1 (q.2 x) (p.2 x)))
          | inr not_after ↦
              let same : p.0 ≡ q.0 = omega arith in
              inr (sym (p.2 x) ∙ ap (λ n. get_or xs n x) same ∙ q.2 x)
        ]
      ]

  abbrev pub AllDiffer : List X → Type 0
  AllDiffer xs = AllPairs (λ x y. x ≢ y) xs

  -- two lists of the same elements, each there once, are one but for the order
  pub same_elements : (xs ys : List X) → AllDiffer xs → AllDiffer ys → ((x : X) → Contains xs x → Contains ys x) →
      ((x : X) → Contains ys x → Contains xs x) → IsPermutation xs ys
  same_elements [] [] once_x once_y to back = IsPermutation-refl []
  same_elements [] (y ∷ ys) once_x once_y to back =
      let one = back y (Contains-head y ys) in
      let none : one.0 < 0 = one.1 in
      absurd (omega arith)
  same_elements (x ∷ xs) ys once_x once_y to back =
      let aside = set_aside (λ a b. a ≢ b) (λ a b other e. other (sym e)) ys x (to x (Contains-head x xs)) once_y in
      let zs = aside.rest in
      let there = IsPermutation-sym ys (x ∷ zs) aside.order in
      IsPermutation-trans (x ∷ xs) (x ∷ zs) ys
      (IsPermutation-cons x xs zs
      (same_elements xs zs (AllPairs-tail (λ a b. a ≢ b) x xs once_x) aside.pairs
      (λ z h. not_the_head x z zs (Contains-permutation ys (x ∷ zs) z aside.order (to z (Contains-later x z xs h)))
      (All-contains (λ y. x ≢ y) xs z (AllPairs-head (λ a b. a ≢ b) x xs once_x) h))
      (λ z h. not_the_head x z xs (back z (Contains-permutation (x ∷ zs) ys z there (Contains-later x z zs h)))
      (All-contains (λ y. x ≢ y) zs z aside.related h))))
      there

-- in two lists, one after the other, any two are related where they are in each and across
pub AllPairs-append : {X : Type 0} (S : X → X → Type 0) (xs ys : List X) → AllPairs S xs → AllPairs S ys →
    ((x y : X) → Contains xs x → Contains ys y → S x y) → AllPairs S (xs ++ ys)
AllPairs-append S [] ys left right across = right
AllPairs-append S (x ∷ xs) ys left right across =
    AllPairs-cons S x (xs ++ ys)
    (All-append (S x) xs ys (AllPairs-head S x xs left)
    (All-weaker (Contains ys) (S x) (λ y one. across x y (Contains-head x xs) one) ys (All-contains_itself ys)))
    (AllPairs-append S xs ys (AllPairs-tail S x xs left) right
    (λ z y one two. across z y (Contains-later x z xs one) two))
