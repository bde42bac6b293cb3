-- Numbers and steps that are not too long, and their sums and products.
use mir.Syntax.{w128}
use mir.Val.{SFits, of_z, to_z}
use Rattle.std.proofs.Common.{◌≡◌, ℕ, ℤ, pos, ◌+ℤ◌, ◌+◌, ◌*◌, ◌≤◌, ◌<◌, ◌^◌, sym, ap, ◌∙◌, subst, arith}
use Rattle.std.specs.Prelude.{unsigned_abs}
use Rattle.std.proofs.Math.IntN.{◌*ℤ◌, ◌-ℤ◌}
use Rattle.std.proofs.Math.Nat.{mul-le-mul}
use Rattle.std.proofs.lemmas.Int.{ints, to_z-of_z, unsigned_abs-mul}
use Rattle.life_growth.specs.Meeting.Sums.{Step, and_then, times}
use Rattle.life_growth.proofs.RelationsLemmas.Signed.{times-scaled}
use Rattle.life_growth.specs.Relations.Relations.{product}
use Rattle.life_things.specs.Lattice.Short.{IsShort, IsWithin}

pub abs_within : (n : ℕ) (x : ℤ) → IsWithin n x → unsigned_abs x ≤ n
abs_within n x h = omega (arith, ints)

pub within_abs : (n : ℕ) (x : ℤ) → unsigned_abs x ≤ n → IsWithin n x
within_abs n x h = record { low = omega (arith, ints); high = omega (arith, ints) }

pub within_wider : (m n : ℕ) (x : ℤ) → m ≤ n → IsWithin m x → IsWithin n x
within_wider m n x h k = record { low = omega (arith, ints); high = omega (arith, ints) }

pub within_sum : (m n : ℕ) (x y : ℤ) → IsWithin m x → IsWithin n y → IsWithin (m + n) (x +ℤ y)
within_sum m n x y h k = record { low = omega (arith, ints); high = omega (arith, ints) }

-- the sizes of two numbers, multiplied
pub sizes_product : (m n : ℕ) (x y : ℤ) → IsWithin m x → IsWithin n y → unsigned_abs x * unsigned_abs y ≤ m * n
sizes_product m n x y h k = mul-le-mul (abs_within m x h) (abs_within n y k)

pub within_product : (m n : ℕ) (x y : ℤ) → IsWithin m x → IsWithin n y → IsWithin (m * n) (x *ℤ y)
within_product m n x y h k =
    within_abs (m * n) (x *ℤ y)
    (subst (λ z. z ≤ m * n) (sym (unsigned_abs-mul x y)) (sizes_product m n x y h k))

pub short_wider : (m n : ℕ) (u : Step) → m ≤ n → IsShort m u → IsShort n u
short_wider m n u h k = record {
  time = within_wider m n u.0 h k.time;
  across = within_wider m n u.1.0 h k.across;
  along = within_wider m n u.1.1 h k.along;
}

pub within_product_of : (m n : ℕ) (u v : Step) → IsShort m u → IsShort n v → IsWithin (m * n + (m * n + m * n)) (product u v)
within_product_of m n u v h k =
    within_sum (m * n) (m * n + m * n) (u.0 *ℤ v.0) ((u.1.0 *ℤ v.1.0) +ℤ (u.1.1 *ℤ v.1.1))
    (within_product m n u.0 v.0 h.time k.time)
    (within_sum (m * n) (m * n) (u.1.0 *ℤ v.1.0) (u.1.1 *ℤ v.1.1) (within_product m n u.1.0 v.1.0 h.across k.across)
    (within_product m n u.1.1 v.1.1 h.along k.along))

-- ---- as the machine has them

pub fits_within : (n : ℕ) (x : ℤ) → n < 2 ^ 127 → IsWithin n x → SFits w128 x
fits_within n x few h = omega (arith, ints)

pub read_back : (n : ℕ) (x : ℤ) → n < 2 ^ 127 → IsWithin n x → to_z w128 (of_z w128 x) ≡ x
read_back n x few h = to_z-of_z w128 x (fits_within n x few h)

-- sums of two and of three
module _ (m n : ℕ) (x y : ℤ) (few : m + n < 2 ^ 127) (h : IsWithin m x) (k : IsWithin n y) where
  pub sum_fits : SFits w128 (to_z w128 (of_z w128 x) +ℤ to_z w128 (of_z w128 y))
  sum_fits = omega (arith, ints)

  pub sum_is : to_z w128 (of_z w128 (to_z w128 (of_z w128 x) +ℤ to_z w128 (of_z w128 y))) ≡ x +ℤ y
  sum_is = omega (arith, ints)

  pub difference_fits : SFits w128 (to_z w128 (of_z w128 x) -ℤ to_z w128 (of_z w128 y))
  difference_fits = omega (arith, ints)

  pub difference_is : to_z w128 (of_z w128 (to_z w128 (of_z w128 x) -ℤ to_z w128 (of_z w128 y))) ≡ x -ℤ y
  difference_is = omega (arith, ints)

module _ (m : ℕ) (x y z : ℤ) (few : m ≤ 2 ^ 125) (h : IsWithin m x) (k : IsWithin m y) (l : IsWithin m z) where
  pub three_fits : SFits w128 (to_z w128 (of_z w128 x) +ℤ to_z w128 (of_z w128 (to_z w128 (of_z w128 y) +ℤ to_z w128 (of_z w128 z))))
  three_fits = omega (arith, ints)

  pub three_are :
      to_z w128 (of_z w128 (to_z w128 (of_z w128 x) +ℤ to_z w128 (of_z w128 (to_z w128 (of_z w128 y) +ℤ to_z w128 (of_z w128 z)))))
      ≡ x +ℤ (y +ℤ z)
  three_are = omega (arith, ints)

-- products
module _ (m n : ℕ) (x y : ℤ) (one : m < 2 ^ 127) (two : n < 2 ^ 127) (few : m * n ≤ 2 ^ 126) (h : IsWithin m x)
    (k : IsWithin n y) where
  pub product_fits : unsigned_abs (to_z w128 (of_z w128 x)) * unsigned_abs (to_z w128 (of_z w128 y)) ≤ 2 ^ 126
  product_fits =
      subst (λ z. unsigned_abs z * unsigned_abs (to_z w128 (of_z w128 y)) ≤ 2 ^ 126) (sym (read_back m x one h))
      (subst (λ z. unsigned_abs x * unsigned_abs z ≤ 2 ^ 126) (sym (read_back n y two k))
      (let small = sizes_product m n x y h k in omega arith))

  pub product_is : (r : ℤ) → r ≡ (to_z w128 (of_z w128 x) *ℤ to_z w128 (of_z w128 y)) → r ≡ x *ℤ y
  product_is r e = e ∙ (λ i. read_back m x one h i *ℤ read_back n y two k i)

  pub product_read : (r : ℤ) → r ≡ (to_z w128 (of_z w128 x) *ℤ to_z w128 (of_z w128 y)) →
      to_z w128 (of_z w128 r) ≡ x *ℤ y
  product_read r e =
      ap (λ z. to_z w128 (of_z w128 z)) (product_is r e) ∙ read_back (m * n) (x *ℤ y) (omega arith) (within_product m n x y h k)

-- ---- one step, made several times

pub count_within : (m n : ℕ) → n ≤ m → IsWithin m (pos n)
count_within m n h = record { low = omega (arith, ints); high = omega (arith, ints) }

-- how far a start and several steps lead
pub short_after : (m k w n : ℕ) (s u : Step) → IsShort m s → n ≤ k → IsShort w u →
    IsShort (m + k * w) (and_then s (times n u))
short_after m k w n s u start few short =
    let often = count_within k n few in
    subst (λ v. IsShort (m + k * w) (and_then s v)) (sym (times-scaled n u)) (record {
      time = within_sum m (k * w) s.0 (pos n *ℤ u.0) start.time (within_product k w (pos n) u.0 often short.time);
      across = within_sum m (k * w) s.1.0 (pos n *ℤ u.1.0) start.across
          (within_product k w (pos n) u.1.0 often short.across);
      along = within_sum m (k * w) s.1.1 (pos n *ℤ u.1.1) start.along
          (within_product k w (pos n) u.1.1 often short.along);
    })
