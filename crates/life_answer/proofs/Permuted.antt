-- Two lists that have each text equally often are equal but for the order.
use Rattle.std.proofs.Common.{◌≡◌, ℕ, ◌+◌, ◌≤◌, Bool, true, cond, List, [], ◌∷◌, map, flat_map, count_by, inl, inr, sym, refl, ap, ◌∙◌, arith}
use Rattle.std.specs.List.{Contains, remove, sum_by}
use Rattle.std.specs.List.Sorted.{IsPermutation}
use Rattle.std.proofs.lemmas.Bool.{cases_Bool}
use Rattle.std.proofs.lemmas.List.Elements.{at_from_Contains}
use Rattle.std.proofs.lemmas.List.Sorted.{IsPermutation-cons, IsPermutation-refl, IsPermutation-remove, IsPermutation-sym, IsPermutation-trans, sum_by-IsPermutation}
use Rattle.std.proofs.lemmas.List.Sums.{sum_by-append, sum_by-cons}
use Rattle.life_objects.proofs.Lists.{Contains-later}
use Rattle.life_objects.proofs.Counting.{count_by-cons}

module _ {X : Type 0} (p : X → Bool) where
  pub count_by-map : {Y : Type 0} (f : Y → X) (ys : List Y) → count_by p (map f ys) ≡ count_by (λ y. p (f y)) ys
  count_by-map f [] = refl
  count_by-map {Y} f (y ∷ ys) =
      count_by-cons p (f y) (map f ys) ∙ ap (λ n. cond (p (f y)) 1 0 + n) (count_by-map f ys)
      ∙ sym (sum_by-cons (λ (z : Y). cond (p (f z)) 1 0) y ys)

pub sum_by-map : {X Y : Type 0} (g : X → ℕ) (f : Y → X) (ys : List Y) → sum_by g (map f ys) ≡ sum_by (λ y. g (f y)) ys
sum_by-map g f [] = refl
sum_by-map g f (y ∷ ys) =
    sum_by-cons g (f y) (map f ys) ∙ ap (λ n. g (f y) + n) (sum_by-map g f ys) ∙ sym (sum_by-cons (λ z. g (f z)) y ys)

pub count-flat_map : {X Y : Type 0} (p : Y → Bool) (f : X → List Y) (xs : List X) →
    count_by p (flat_map f xs) ≡ sum_by (λ x. count_by p (f x)) xs
count-flat_map p f [] = refl
count-flat_map p f (x ∷ xs) =
    sum_by-append (λ y. cond (p y) 1 0) (f x) (flat_map f xs) ∙ ap (λ n. count_by p (f x) + n) (count-flat_map p f xs)
    ∙ sym (sum_by-cons (λ z. count_by p (f z)) x xs)

module _ {X : Type 0} (same : X → X → Bool) (itself : (x : X) → same x x ≡ true)
    (tells : (x y : X) → same x y ≡ true → x ≡ y) where
  pub counted_is_in : (x : X) (ys : List X) → 1 ≤ count_by (same x) ys → Contains ys x
  counted_is_in x [] h = absurd (omega arith)
  counted_is_in x (y ∷ ys) h =
      elim (cases_Bool (same x y)) [
        | inl one ↦ (0, omega arith, sym (tells x y one))
        | inr other ↦
            let e = count_by-cons (same x) y ys in
            let none : cond {A = ℕ} (same x y) 1 0 ≡ 0 = ap (λ b. cond {A = ℕ} b 1 0) other in
            Contains-later y x ys (counted_is_in x ys (omega arith))
      ]

  pub same_counts : (xs ys : List X) → ((x : X) → count_by (same x) xs ≡ count_by (same x) ys) → IsPermutation xs ys
  same_counts [] [] equal = IsPermutation-refl []
  same_counts [] (y ∷ ys) equal =
      let e = count_by-cons (same y) y ys in
      let one : cond {A = ℕ} (same y y) 1 0 ≡ 1 = ap (λ b. cond {A = ℕ} b 1 0) (itself y) in
      let none : 0 ≡ count_by (same y) (y ∷ ys) = equal y in
      absurd (omega arith)
  same_counts (x ∷ xs) ys equal =
      let e = count_by-cons (same x) x xs in
      let one : cond {A = ℕ} (same x x) 1 0 ≡ 1 = ap (λ b. cond {A = ℕ} b 1 0) (itself x) in
      let both = equal x in
      let place = at_from_Contains ys x (counted_is_in x ys (omega arith)) in
      let zs = remove ys place.0 in
      let order = IsPermutation-remove ys place.0 x place.1 (sym (place.2 x)) in
      IsPermutation-trans (x ∷ xs) (x ∷ zs) ys
      (IsPermutation-cons x xs zs (same_counts xs zs (λ z.
      let first = count_by-cons (same z) x xs in
      let second = count_by-cons (same z) x zs in
      let moved = sum_by-IsPermutation (λ (y : X). cond (same z y) 1 0) ys (x ∷ zs) order in
      let all = equal z in
      omega arith)))
      (IsPermutation-sym ys (x ∷ zs) order)
