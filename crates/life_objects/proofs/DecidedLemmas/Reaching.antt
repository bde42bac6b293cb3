-- How far the cells of a set are from the origin, and those of its later generations.
use Rattle.std.proofs.Common.{◌≡◌, ℕ, zero, suc, ◌+◌, ◌<◌, ◌≤◌, pos, neg_ℤ, ◌≤ℤ◌, true}
use Rattle.std.proofs.Common.{sym, subst, ◌∙◌, arith}
use Rattle.std.specs.Prelude.{unsigned_abs}
use Rattle.std.proofs.lemmas.Int.{ints}
use Rattle.life_model.specs.Cell.{Cell, IsNear}
use Rattle.life_model.specs.Rule.{Rule}
use Rattle.life_model.specs.Generation.{Generation, cells, contains}
use Rattle.life_model.specs.Evolution.{generation}
use Rattle.life_model.proofs.Generations.{contains-cells}
use Rattle.life_model.proofs.Near.{next_near}
use Rattle.life_model.proofs.Boxes.{below_extent}
use Rattle.life_objects.specs.Decided.Parts.{reach}
use Rattle.life_objects.proofs.DecidedLemmas.Tests.{abs_small}

-- c is at most r from the origin in both directions
pub record IsReached (r : ℕ) (c : Cell) : Type 0 where
  pub left : neg_ℤ (pos r) ≤ℤ c.0
  pub right : c.0 ≤ℤ pos r
  pub above : neg_ℤ (pos r) ≤ℤ c.1
  pub below : c.1 ≤ℤ pos r

sum_parts : (a b r : ℕ) → a + b < r → (a ≤ r) × (b ≤ r)
sum_parts a b r h = (omega arith, omega arith)

pub reached_now : (P : Generation) (c : Cell) → contains P c ≡ true → IsReached (reach P) c
reached_now P c h =
    let far = below_extent (λ c. unsigned_abs c.0 + unsigned_abs c.1) (cells P) c (sym (contains-cells P c) ∙ h) in
    let parts = sum_parts (unsigned_abs c.0) (unsigned_abs c.1) (reach P) far in
    let across = abs_small c.0 (reach P) parts.0 in
    let along = abs_small c.1 (reach P) parts.1 in
    record { left = across.0; right = across.1; above = along.0; below = along.1 }

reached_near : (r : ℕ) (c g : Cell) → IsNear c g → IsReached r g → IsReached (suc r) c
reached_near r c g near h =
    let near_left = near.left in
    let near_right = near.right in
    let near_above = near.above in
    let near_below = near.below in
    let left = h.left in
    let right = h.right in
    let above = h.above in
    let below = h.below in
    record {
      left = omega (arith, ints);
      right = omega (arith, ints);
      above = omega (arith, ints);
      below = omega (arith, ints);
    }

none_more : (n : ℕ) → n ≡ 0 + n
none_more n = omega arith

one_more : (m n : ℕ) → suc (m + n) ≡ suc m + n
one_more m n = omega arith

-- a set grows by one cell a generation at most, on each side
pub reached_later : (R : Rule) (P : Generation) (m : ℕ) (c : Cell) → contains (generation R P m) c ≡ true →
    IsReached (m + reach P) c
unfolding generation
reached_later R P zero c h = subst (λ r. IsReached r c) (none_more (reach P)) (reached_now P c h)
reached_later R P (suc m) c h =
    let g = next_near R (generation R P m) c h in
    subst (λ r. IsReached r c) (one_more m (reach P))
    (reached_near (m + reach P) c g.0 g.2 (reached_later R P m g.0 g.1))
