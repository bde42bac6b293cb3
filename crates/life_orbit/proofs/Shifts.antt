-- Moves made again and again, along one axis.
use Rattle.std.proofs.Common.{◌≡◌, ℕ, zero, suc, ℤ, pos, ◌+ℤ◌, ◌≤ℤ◌, ◌+◌, ◌-◌, ◌*◌, ◌≤◌, sym, ap, subst, ◌∙◌, arith}
use Rattle.std.proofs.Math.IntN.{◌*ℤ◌, zero-*ℤ, suc_ℤ-*ℤ}
use Rattle.std.specs.Int.{int_max, int_min}
use Rattle.std.proofs.lemmas.Int.{ints, clamps, by_lt_z}
use Rattle.life_model.specs.Cell.{Cell, origin, plus}
use Rattle.life_model.proofs.Moves.{same_le}
use Rattle.life_objects.specs.Drift.{multiple_of}

-- a coordinate of cells
pub record IsAxis (f : Cell → ℤ) : Type 0 where
  pub adds : (c d : Cell) → f (plus c d) ≡ f c +ℤ f d
  pub starts : f origin ≡ pos 0

min_low : (z t w : ℤ) → w ≤ℤ t → int_min z w ≤ℤ t
min_low z t w h = omega (arith, ints, clamps)

min_first : (z t w : ℤ) → z ≤ℤ t → int_min z w ≤ℤ t
min_first z t w h = omega (arith, ints, clamps)

max_high : (z t w : ℤ) → t ≤ℤ w → t ≤ℤ int_max z w
max_high z t w h = omega (arith, ints, clamps)

max_first : (z t w : ℤ) → t ≤ℤ z → t ≤ℤ int_max z w
max_first z t w h = omega (arith, ints, clamps)

add_up : (a b s t : ℤ) → a ≤ℤ b → pos 0 ≤ℤ t → s ≡ b +ℤ t → a ≤ℤ s
add_up a b s t h k e = omega (arith, ints)

add_down : (a b s t : ℤ) → b ≤ℤ a → t ≤ℤ pos 0 → s ≡ b +ℤ t → s ≤ℤ a
add_down a b s t h k e = omega (arith, ints)

one_wider : (x y s t f g : ℤ) (n v m : ℕ) →
    s ≡ x +ℤ f → t ≡ y +ℤ g → x ≡ y +ℤ pos n → f ≡ g +ℤ pos v → m ≡ n + v → s ≡ t +ℤ pos m
one_wider x y s t f g n v m a b c d e = omega (arith, ints)

no_wider : (x y : ℤ) (m : ℕ) → x ≡ pos 0 → y ≡ pos 0 → m ≡ 0 → x ≡ y +ℤ pos m
no_wider x y m a b c = omega (arith, ints)

module _ (f : Cell → ℤ) (axis : IsAxis f) where
  pub times-scaled : (k : ℕ) (d : Cell) → f (multiple_of k d) ≡ pos k *ℤ f d
  times-scaled zero d = axis.starts ∙ sym (zero-*ℤ (f d))
  times-scaled (suc k) d =
      axis.adds (multiple_of k d) d ∙ ap (λ z. z +ℤ f d) (times-scaled k d) ∙ sym (suc_ℤ-*ℤ (pos k) (f d))

  rises : (r j : ℕ) (d : Cell) → pos 0 ≤ℤ f d → f (multiple_of j d) ≤ℤ f (multiple_of (r + j) d)
  rises zero j d h = same_le _ _ (ap (λ n. f (multiple_of n d)) (let e : j ≡ 0 + j = omega arith in e))
  rises (suc r) j d h =
      add_up _ _ _ _ (rises r j d h) h
      (ap (λ n. f (multiple_of n d)) (let e : suc r + j ≡ suc (r + j) = omega arith in e) ∙ axis.adds (multiple_of (r + j) d) d)

  falls : (r j : ℕ) (d : Cell) → f d ≤ℤ pos 0 → f (multiple_of (r + j) d) ≤ℤ f (multiple_of j d)
  falls zero j d h = same_le _ _ (ap (λ n. f (multiple_of n d)) (let e : 0 + j ≡ j = omega arith in e))
  falls (suc r) j d h =
      add_down _ _ _ _ (falls r j d h) h
      (ap (λ n. f (multiple_of n d)) (let e : suc r + j ≡ suc (r + j) = omega arith in e) ∙ axis.adds (multiple_of (r + j) d) d)

  from_start : (j : ℕ) (d : Cell) → pos 0 ≤ℤ f d → pos 0 ≤ℤ f (multiple_of j d)
  from_start j d h =
      subst (λ z. z ≤ℤ f (multiple_of j d)) axis.starts
      (subst (λ n. f origin ≤ℤ f (multiple_of n d)) (let e : j + 0 ≡ j = omega arith in e) (rises j 0 d h))

  to_start : (j : ℕ) (d : Cell) → f d ≤ℤ pos 0 → f (multiple_of j d) ≤ℤ pos 0
  to_start j d h =
      subst (λ z. f (multiple_of j d) ≤ℤ z) axis.starts
      (subst (λ n. f (multiple_of n d) ≤ℤ f origin) (let e : j + 0 ≡ j = omega arith in e) (falls j 0 d h))

  -- on the way to a moves, none is to the left of the first and of the last
  pub not_left : (j a : ℕ) (d : Cell) → j ≤ a → int_min (pos 0) (f (multiple_of a d)) ≤ℤ f (multiple_of j d)
  not_left j a d h =
      by_lt_z (f d) (pos 0)
      (λ less. min_low (pos 0) (f (multiple_of j d)) (f (multiple_of a d))
      (subst (λ n. f (multiple_of n d) ≤ℤ f (multiple_of j d)) (let e : (a - j) + j ≡ a = omega arith in e)
      (falls (a - j) j d (let l : f d ≤ℤ pos 0 = omega (arith, ints) in l))))
      (λ more. min_first (pos 0) (f (multiple_of j d)) (f (multiple_of a d)) (from_start j d more))

  -- and none is to the right of both
  pub not_right : (j a : ℕ) (d : Cell) → j ≤ a → f (multiple_of j d) ≤ℤ int_max (pos 0) (f (multiple_of a d))
  not_right j a d h =
      by_lt_z (f d) (pos 0)
      (λ less. max_first (pos 0) (f (multiple_of j d)) (f (multiple_of a d))
      (to_start j d (let l : f d ≤ℤ pos 0 = omega (arith, ints) in l)))
      (λ more. max_high (pos 0) (f (multiple_of j d)) (f (multiple_of a d))
      (subst (λ n. f (multiple_of j d) ≤ℤ f (multiple_of n d)) (let e : (a - j) + j ≡ a = omega arith in e)
      (rises (a - j) j d more)))

  -- a gap of moves grows by one difference each time
  pub widens : (k v : ℕ) (d e : Cell) → f d ≡ f e +ℤ pos v → f (multiple_of k d) ≡ f (multiple_of k e) +ℤ pos (k * v)
  widens zero v d e h = no_wider _ _ _ axis.starts axis.starts (let z : 0 * v ≡ 0 = omega arith in z)
  widens (suc k) v d e h =
      one_wider _ _ _ _ _ _ (k * v) v _ (axis.adds (multiple_of k d) d) (axis.adds (multiple_of k e) e) (widens k v d e h) h
      (let z : suc k * v ≡ k * v + v = omega arith in z)
