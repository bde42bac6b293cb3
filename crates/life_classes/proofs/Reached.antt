-- What it means for a set to reach a cell.
use Rattle.std.proofs.Common.{◌≡◌, ℕ, ◌≤◌, ℤ, pos, ◌+ℤ◌, ◌-ℤ◌, ◌≤ℤ◌, Bool, true, false}
use Rattle.std.proofs.Common.{arith}
use Rattle.std.specs.Prelude.{nat_le, unsigned_abs}
use Rattle.std.specs.List.{list_any}
use Rattle.std.proofs.lemmas.Int.{ints}
use Rattle.std.proofs.lemmas.Bool.{false_from_ne_true, leb-true, le-leb, and_from, and_parts}
use Rattle.life_model.specs.Cell.{Cell, IsNear}
use Rattle.life_model.specs.Generation.{Generation, cells, contains}
use Rattle.life_classes.specs.Nearness.{are_within, reaches}
use Rattle.life_objects.proofs.DecidedLemmas.Tests.{abs_small, member_passes, passing_member, small_abs}

-- c and d are at most r from each other in both directions
pub record AreWithin (r : ℕ) (c d : Cell) : Type 0 where
  pub left : (d.0 -ℤ pos r) ≤ℤ c.0
  pub right : c.0 ≤ℤ (d.0 +ℤ pos r)
  pub above : (d.1 -ℤ pos r) ≤ℤ c.1
  pub below : c.1 ≤ℤ (d.1 +ℤ pos r)

pub within_by_test : (r : ℕ) (c d : Cell) → are_within r c d ≡ true → AreWithin r c d
within_by_test r c d h =
    let parts = and_parts (nat_le (unsigned_abs (c.0 -ℤ d.0)) r) (nat_le (unsigned_abs (c.1 -ℤ d.1)) r) h in
    let across = abs_small (c.0 -ℤ d.0) r (leb-true (unsigned_abs (c.0 -ℤ d.0)) r parts.0) in
    let along = abs_small (c.1 -ℤ d.1) r (leb-true (unsigned_abs (c.1 -ℤ d.1)) r parts.1) in
    record {
      left = omega (arith, ints);
      right = omega (arith, ints);
      above = omega (arith, ints);
      below = omega (arith, ints);
    }

test_by_within : (r : ℕ) (c d : Cell) → AreWithin r c d → are_within r c d ≡ true
test_by_within r c d h =
    and_from (nat_le (unsigned_abs (c.0 -ℤ d.0)) r) (nat_le (unsigned_abs (c.1 -ℤ d.1)) r)
    (le-leb (unsigned_abs (c.0 -ℤ d.0)) r (small_abs (c.0 -ℤ d.0) r (omega (arith, ints)) (omega (arith, ints))))
    (le-leb (unsigned_abs (c.1 -ℤ d.1)) r (small_abs (c.1 -ℤ d.1) r (omega (arith, ints)) (omega (arith, ints))))

-- ---- the elements of a list that pass a test

pub none_passes : (p : Cell → Bool) (P : Generation) → ((c : Cell) → contains P c ≡ true → p c ≡ true → ⊥) →
    list_any p (cells P) ≡ false
none_passes p P none = false_from_ne_true _ (λ h. let one = passing_member p P h in none one.0 one.1 one.2)

-- ---- what is reached

pub reached_by : (r : ℕ) (P : Generation) (c : Cell) → reaches r P c ≡ true →
    (d : Cell) × (contains P d ≡ true) × AreWithin r c d
reached_by r P c h =
    let one = passing_member (are_within r c) P h in
    (one.0, one.1, within_by_test r c one.0 one.2)

pub reaching : (r : ℕ) (P : Generation) (c d : Cell) → contains P d ≡ true → AreWithin r c d → reaches r P c ≡ true
reaching r P c d h near = member_passes (are_within r c) P d h (test_by_within r c d near)

pub reaches_itself : (P : Generation) (c : Cell) → contains P c ≡ true → reaches 0 P c ≡ true
reaches_itself P c h = reaching 0 P c c h (record {
  left = omega (arith, ints);
  right = omega (arith, ints);
  above = omega (arith, ints);
  below = omega (arith, ints);
})

pub touched_by : (P : Generation) (c : Cell) → reaches 1 P c ≡ true → (d : Cell) × (contains P d ≡ true) × IsNear c d
touched_by P c h =
    let one = reached_by 1 P c h in
    let w = one.2 in
    (one.0, one.1, record { left = w.left; right = w.right; above = w.above; below = w.below })

pub touching : (P : Generation) (c d : Cell) → contains P d ≡ true → IsNear c d → reaches 1 P c ≡ true
touching P c d h near =
    reaching 1 P c d h (record { left = near.left; right = near.right; above = near.above; below = near.below })

-- a cell that is reached is in a row that is as near
pub row_within : (r : ℕ) (c d : Cell) → are_within r c d ≡ true → ((c.1 -ℤ pos r) ≤ℤ d.1) × (d.1 ≤ℤ (c.1 +ℤ pos r))
row_within r c d h = let w = within_by_test r c d h in (omega (arith, ints), omega (arith, ints))
