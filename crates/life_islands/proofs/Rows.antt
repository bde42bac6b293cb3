-- The rows of the cells that are at most two from a cell.
use Rattle.std.proofs.Common.{◌≡◌, ◌⊎◌, zero, suc, ℤ, pos, negsuc, neg_ℤ, ◌-ℤ◌, ◌+ℤ◌, ◌≤ℤ◌, inl, inr, refl, arith}
use Rattle.std.proofs.lemmas.Int.{ints}
use Rattle.life_model.specs.Cell.{Cell}
use Rattle.life_classes.specs.Tags.{place_number}
use Rattle.life_islands.specs.Reach.{IsWithinTwo}

-- the number of a cell is one of five more than that
abbrev pub IsInRow : Cell → ℤ → Type 0
IsInRow c low = (low ≤ℤ place_number c) × (place_number c ≤ℤ (low +ℤ pos 4))

small : (z : ℤ) → neg_ℤ (pos 2) ≤ℤ z → z ≤ℤ pos 2 →
    (z ≡ neg_ℤ (pos 2)) ⊎ ((z ≡ neg_ℤ (pos 1)) ⊎ ((z ≡ pos 0) ⊎ ((z ≡ pos 1) ⊎ (z ≡ pos 2))))
small (pos zero) h k = inr (inr (inl refl))
small (pos (suc zero)) h k = inr (inr (inr (inl refl)))
small (pos (suc (suc zero))) h k = inr (inr (inr (inr refl)))
small (pos (suc (suc (suc n)))) h k = absurd (omega (arith, ints))
small (negsuc zero) h k = inr (inl refl)
small (negsuc (suc zero)) h k = inl refl
small (negsuc (suc (suc n))) h k = absurd (omega (arith, ints))

-- in one of the five rows around a cell
pub row_of : (e c : Cell) → IsWithinTwo e c →
    IsInRow e (place_number c -ℤ pos 2 -ℤ pos 4294967296)
    ⊎ (IsInRow e (place_number c -ℤ pos 2 -ℤ pos 2147483648)
    ⊎ (IsInRow e (place_number c -ℤ pos 2)
    ⊎ (IsInRow e (place_number c -ℤ pos 2 +ℤ pos 2147483648)
    ⊎ IsInRow e (place_number c -ℤ pos 2 +ℤ pos 4294967296))))
row_of e c near =
    let left = near.left in
    let right = near.right in
    let above = near.above in
    let below = near.below in
    elim (small (e.1 -ℤ c.1) (omega (arith, ints)) (omega (arith, ints))) [
      | inl a ↦ inl (omega (arith, ints), omega (arith, ints))
      | inr p ↦ elim p [
        | inl a ↦ inr (inl (omega (arith, ints), omega (arith, ints)))
        | inr q ↦ elim q [
          | inl a ↦ inr (inr (inl (omega (arith, ints), omega (arith, ints))))
          | inr r ↦ elim r [
            | inl a ↦ inr (inr (inr (inl (omega (arith, ints), omega (arith, ints)))))
            | inr a ↦ inr (inr (inr (inr (omega (arith, ints), omega (arith, ints)))))
          ]
        ]
      ]
    ]
