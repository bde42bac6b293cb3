-- The corner of a list of cells, as a loop finds it, and where it may be.
use Rattle.std.proofs.Common.{◌≡◌, ℕ, zero, suc, ◌+◌, ◌<◌, ℤ, List, [], ◌∷◌, length, get_or, take, add-one, refl, ap, ◌∙◌, arith, pos, negsuc, ◌≤ℤ◌, subst}
use Rattle.std.specs.Int.{int_min}
use Rattle.std.specs.List.{All}
use Rattle.std.proofs.lemmas.Int.{ints, clamps}
use Rattle.life_model.specs.Cell.{Cell}
use Rattle.life_model.specs.Symmetry.{least_by, corner_of}
use Rattle.life_model.proofs.Members.{of_member}
use Rattle.life_model.proofs.Moves.{least_by-reached}
use Rattle.life_cells.specs.Limits.{IsPlace, last_place}

min_of_three : (a b c : ℤ) → int_min a (int_min b c) ≡ int_min (int_min a b) c
min_of_three a b c = omega (arith, ints, clamps)

module _ (f : Cell → ℤ) where
  least_by-suc : (c : Cell) (cs : List Cell) (i : ℕ) (d : Cell) → i < length cs → least_by f c (take (suc i) cs) ≡ int_min (least_by f c (take i cs)) (f (get_or cs i d))
  least_by-suc c [] i d h = absurd (omega arith)
  least_by-suc c (b ∷ bs) zero d h = refl
  least_by-suc c (b ∷ bs) (suc i) d h = ap (int_min (f c)) (least_by-suc b bs i d (omega arith)) ∙ min_of_three (f c) _ _

  pub least_by_more : (c : Cell) (cs : List Cell) (i : ℕ) (d : Cell) → i < length cs → least_by f c (take (i + 1) cs) ≡ int_min (least_by f c (take i cs)) (f (get_or cs i d))
  least_by_more c cs i d h = rw add-one (least_by-suc c cs i d h)

-- the corner of cells within the limits is within them too
pub corner_place : (cs : List Cell) → All IsPlace cs → IsPlace (corner_of cs)
corner_place [] all = record { left = omega (arith, ints); right = omega (arith, ints); above = omega (arith, ints); below = omega (arith, ints) }
corner_place (c ∷ cs) all =
    let leftmost = least_by-reached (λ b. b.0) c cs in
    let topmost = least_by-reached (λ b. b.1) c cs in
    let across = of_member IsPlace (c ∷ cs) all leftmost.0 leftmost.1 in
    let down = of_member IsPlace (c ∷ cs) all topmost.0 topmost.1 in
    record {
      left = subst (λ x. negsuc last_place ≤ℤ x) leftmost.2 across.left;
      right = subst (λ x. x ≤ℤ pos last_place) leftmost.2 across.right;
      above = subst (λ y. negsuc last_place ≤ℤ y) topmost.2 down.above;
      below = subst (λ y. y ≤ℤ pos last_place) topmost.2 down.below;
    }
