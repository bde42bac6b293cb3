-- Boxes around sets, and cells that are far from all that is in them.
use Rattle.std.proofs.Common.{◌≡◌, ◌⊎◌, ℕ, ℤ, pos, ◌-ℤ◌, ◌≤ℤ◌, int_lt, true, false, cond}
use Rattle.std.proofs.Common.{inl, inr, sym, refl, subst, ◌∙◌, arith}
use Rattle.std.specs.Int.{int_max}
use Rattle.std.specs.List.{All}
use Rattle.std.proofs.lemmas.Int.{ints}
use Rattle.life_model.specs.Cell.{Cell}
use Rattle.life_model.specs.Generation.{Generation, cells, contains}
use Rattle.life_model.proofs.Generations.{contains-cells}
use Rattle.life_objects.specs.Apart.{AreDisjoint}
use Rattle.life_objects.specs.Union.{IsSubsetOf}
use Rattle.life_model.proofs.Members.{of_member}
use Rattle.life_apart.specs.Alone.{AreFar}
use Rattle.life_apart.specs.Bounds.{IsFarOff, IsInBounds}
use Rattle.life_apart.specs.declared.clearance.Bounds.{Bounds}

-- one box contains the other
pub record IsWider (b e : Bounds) : Type 0 where
  pub left : b.left ≤ℤ e.left
  pub right : e.right ≤ℤ b.right
  pub above : b.top ≤ℤ e.top
  pub below : e.bottom ≤ℤ b.bottom

-- what is in a box is in a wider one
pub in_wider : (b e : Bounds) (c : Cell) → IsWider b e → IsInBounds e c → IsInBounds b c
in_wider b e c wide within = record {
  left = omega (arith, ints);
  right = omega (arith, ints);
  above = omega (arith, ints);
  below = omega (arith, ints);
}

-- ---- how far a cell is from a box

-- what is `n` off is also `m` off, for a smaller m
pub less_far : (b : Bounds) (m n : ℤ) (d : Cell) → m ≤ℤ n → IsFarOff b n d → IsFarOff b m d
less_far b m n d less far c within k close = far c within k (omega (arith, ints))

-- the greater of two numbers is one of them
one_of : (x y : ℤ) → (int_max x y ≡ x) ⊎ (int_max x y ≡ y)
one_of x y = elim (int_lt y x) as (λ t. (cond t x y ≡ x) ⊎ (cond t x y ≡ y)) [
  | true ↦ inl refl
  | false ↦ inr refl
]

module _ (b : Bounds) (d : Cell) where
  -- the distance is that in the direction in which it is greater
  pub further_of : (x y z : ℤ) → z ≡ int_max x y → IsFarOff b x d → IsFarOff b y d → IsFarOff b z d
  further_of x y z is one other =
      elim (one_of x y) [
        | inl first ↦ subst (λ far. IsFarOff b far d) (sym (is ∙ first)) one
        | inr second ↦ subst (λ far. IsFarOff b far d) (sym (is ∙ second)) other
      ]

  -- in each of the four directions
  to_left : IsFarOff b (b.left -ℤ d.0) d
  to_left c within n long close = omega (arith, ints)

  to_right : IsFarOff b (d.0 -ℤ b.right) d
  to_right c within n long close = omega (arith, ints)

  above : IsFarOff b (b.top -ℤ d.1) d
  above c within n long close = omega (arith, ints)

  below : IsFarOff b (d.1 -ℤ b.bottom) d
  below c within n long close = omega (arith, ints)

  -- to the sides, and up and down
  pub far_across : (far : ℤ) → far ≡ int_max (b.left -ℤ d.0) (d.0 -ℤ b.right) → IsFarOff b far d
  far_across far is = further_of (b.left -ℤ d.0) (d.0 -ℤ b.right) far is to_left to_right

  pub far_down : (far : ℤ) → far ≡ int_max (b.top -ℤ d.1) (d.1 -ℤ b.bottom) → IsFarOff b far d
  far_down far is = further_of (b.top -ℤ d.1) (d.1 -ℤ b.bottom) far is above below

-- ---- cells that are in a set or far from a box around it

-- the cell is in the set, or at least `far` from the box
abbrev pub IsOwnOrFarOff : Generation → Bounds → ℤ → Cell → Type 0
IsOwnOrFarOff P b far d = (contains P d ≡ true) ⊎ IsFarOff b far d

-- this also holds for a smaller distance
pub own_or_less_far : (P : Generation) (b : Bounds) (m n : ℤ) (d : Cell) → m ≤ℤ n → IsOwnOrFarOff P b n d →
    IsOwnOrFarOff P b m d
own_or_less_far P b m n d less known =
    elim known [
      | inl own ↦ inl own
      | inr off ↦ inr (less_far b m n d less off)
    ]

-- the box is around the set, so the cells that the set has not are as far from it as they are from the box
pub far_from_others : (P A Q : Generation) (b : Bounds) (far : ℤ) (n : ℕ) → All (IsInBounds b) (cells P) →
    All (IsOwnOrFarOff P b far) (cells A) → pos n ≤ℤ far → IsSubsetOf Q A → AreDisjoint P Q → AreFar n P Q
far_from_others P A Q b far n around known long within apart c d h k close =
    elim (of_member (IsOwnOrFarOff P b far) (cells A) known d (sym (contains-cells A d) ∙ within d k)) [
      | inl own ↦ apart d own k
      | inr off ↦ off c (of_member (IsInBounds b) (cells P) around c (sym (contains-cells P c) ∙ h)) n long close
    ]
