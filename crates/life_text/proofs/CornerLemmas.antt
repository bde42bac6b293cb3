-- The corner of a list of cells.
use Rattle.std.proofs.Common.{ℕ, zero, suc, ◌<◌, ℤ, ◌≤ℤ◌, List, [], ◌∷◌, length, get_or, arith}
use Rattle.std.specs.Int.{int_min}
use Rattle.std.proofs.lemmas.Int.{ints, clamps}
use Rattle.life_model.specs.Cell.{Cell}
use Rattle.life_model.specs.Symmetry.{least_by, corner_of}
use Rattle.life_model.proofs.Moves.{min_left}

min_right : (a b c : ℤ) → b ≤ℤ c → int_min a b ≤ℤ c
min_right a b c h = omega (arith, ints, clamps)

le_itself : (a : ℤ) → a ≤ℤ a
le_itself a = omega (arith, ints)

module _ (f : Cell → ℤ) where
  -- it is at most that of each cell
  least_at : (c : Cell) (cs : List Cell) (i : ℕ) (d : Cell) → i < suc (length cs) → least_by f c cs ≤ℤ f (get_or (c ∷ cs) i d)
  least_at c [] zero d h = le_itself (f c)
  least_at c [] (suc i) d h = absurd (omega arith)
  least_at c (b ∷ bs) zero d h = min_left (f c) (least_by f b bs)
  least_at c (b ∷ bs) (suc i) d h = min_right (f c) _ _ (least_at b bs i d (omega arith))

pub corner_left : (cs : List Cell) (i : ℕ) (d : Cell) → i < length cs → (corner_of cs).0 ≤ℤ (get_or cs i d).0
corner_left [] i d h = absurd (omega arith)
corner_left (c ∷ cs) i d h = least_at (λ b. b.0) c cs i d h

pub corner_above : (cs : List Cell) (i : ℕ) (d : Cell) → i < length cs → (corner_of cs).1 ≤ℤ (get_or cs i d).1
corner_above [] i d h = absurd (omega arith)
corner_above (c ∷ cs) i d h = least_at (λ b. b.1) c cs i d h
