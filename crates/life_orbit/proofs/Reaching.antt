-- How far repeated moves go.
use mir.Syntax.{w32, w128}
use mir.Val.{SFits, of_z, to_z}
use Rattle.std.proofs.Common.{◌≡◌, ℕ, zero, suc, ℤ, neg_ℤ, pos, ◌+ℤ◌, ◌≤ℤ◌, ◌+◌, ◌*◌, ◌^◌, ◌<◌, ◌≤◌, refl, ◌∙◌, arith}
use Rattle.std.proofs.Math.IntN.{◌*ℤ◌}
use Rattle.std.proofs.lemmas.Int.{fits_signed_mul, ints, to_z-of_z}
use Rattle.life_model.specs.Cell.{Cell}
use Rattle.life_objects.specs.Drift.{multiple_of}
use Rattle.life_orbit.specs.Reach.{IsReach}
use Rattle.life_orbit.proofs.Shifts.{IsAxis}

pub x_axis : IsAxis (λ c. c.0)
x_axis = record { adds = λ c d. refl; starts = refl }

pub y_axis : IsAxis (λ c. c.1)
y_axis = record { adds = λ c d. refl; starts = refl }

low_more : (a b n : ℕ) (x y : ℤ) → n ≡ a + b → neg_ℤ (pos a) ≤ℤ x → neg_ℤ (pos b) ≤ℤ y → neg_ℤ (pos n) ≤ℤ (x +ℤ y)
low_more a b n x y e h k = omega (arith, ints)

high_more : (a b n : ℕ) (x y : ℤ) → n ≡ a + b → x ≤ℤ pos a → y ≤ℤ pos b → (x +ℤ y) ≤ℤ pos n
high_more a b n x y e h k = omega (arith, ints)

low_none : (n : ℕ) → neg_ℤ (pos n) ≤ℤ pos 0
low_none n = omega (arith, ints)

high_none : (n : ℕ) → pos 0 ≤ℤ pos n
high_none n = omega (arith, ints)

pub reach_times : (m k : ℕ) (d : Cell) → IsReach m d → IsReach (k * m) (multiple_of k d)
reach_times m zero d h = record {
  left = low_none (0 * m);
  right = high_none (0 * m);
  above = low_none (0 * m);
  below = high_none (0 * m);
}
reach_times m (suc k) d h =
    let so_far = reach_times m k d h in
    let e : suc k * m ≡ k * m + m = omega arith in
    record {
      left = low_more (k * m) m (suc k * m) _ _ e so_far.left h.left;
      right = high_more (k * m) m (suc k * m) _ _ e so_far.right h.right;
      above = low_more (k * m) m (suc k * m) _ _ e so_far.above h.above;
      below = high_more (k * m) m (suc k * m) _ _ e so_far.below h.below;
    }

low_wider : (m n : ℕ) (x : ℤ) → m ≤ n → neg_ℤ (pos m) ≤ℤ x → neg_ℤ (pos n) ≤ℤ x
low_wider m n x h k = omega (arith, ints)

high_wider : (m n : ℕ) (x : ℤ) → m ≤ n → x ≤ℤ pos m → x ≤ℤ pos n
high_wider m n x h k = omega (arith, ints)

pub reach_wider : (m n : ℕ) (d : Cell) → m ≤ n → IsReach m d → IsReach n d
reach_wider m n d h k = record {
  left = low_wider m n d.0 h k.left;
  right = high_wider m n d.0 h k.right;
  above = low_wider m n d.1 h k.above;
  below = high_wider m n d.1 h k.below;
}

-- ---- how far repeated moves go, as numbers of 128 bits

product_fits : (k : ℕ) (z : ℤ) → k < 2 ^ 94 → SFits w32 z → SFits w128 (pos k *ℤ z)
product_fits k z h f =
    fits_signed_mul w128 (pos k) z (2 ^ 94) (2 ^ 31) (omega (arith, ints)) (omega (arith, ints)) (omega arith)

pub product_value : (k : ℕ) (z : ℤ) → k < 2 ^ 94 → SFits w32 z →
    to_z w128 (of_z w128 (to_z w128 k *ℤ to_z w128 (of_z w128 (to_z w32 (of_z w32 z))))) ≡ pos k *ℤ z
product_value k z h f =
    let counted : to_z w128 k ≡ pos k = omega (arith, ints) in
    let inner : to_z w128 (of_z w128 (to_z w32 (of_z w32 z))) ≡ z = omega (arith, ints) in
    (λ i. to_z w128 (of_z w128 (counted i *ℤ inner i))) ∙ to_z-of_z w128 (pos k *ℤ z) (product_fits k z h f)

pub place_reach : (d : Cell) → SFits w32 d.0 → SFits w32 d.1 → IsReach 2147483648 d
place_reach d h k = record {
  left = omega (arith, ints);
  right = omega (arith, ints);
  above = omega (arith, ints);
  below = omega (arith, ints);
}
