-- How far cells near others, those of the next generation and later ones may be.
use Rattle.std.proofs.Common.{◌≡◌, ℕ, true, ◌+◌, ◌≤◌, sym, ap, ◌∙◌, arith}
use Rattle.std.proofs.lemmas.Int.{ints}
use Rattle.life_model.specs.Cell.{Cell, IsNear}
use Rattle.life_model.specs.Rule.{Rule}
use Rattle.life_model.specs.Generation.{Generation, contains}
use Rattle.life_model.specs.Evolution.{next}
use Rattle.life_model.proofs.Near.{next_near}
use Rattle.life_cells.specs.Limits.{IsWithin}

pub within_near : (age : ℕ) (g c : Cell) → IsWithin age g → IsNear c g → IsWithin (age + 1) c
within_near age g c within near = record {
  left = omega (arith, ints, within.left, near.left);
  right = omega (arith, ints, within.right, near.right);
  above = omega (arith, ints, within.above, near.above);
  below = omega (arith, ints, within.below, near.below);
}

-- no cell of the next generation is further than one from the cells of this one
pub within_next : (rule : Rule) (G H : Generation) (age : ℕ) → H ≡ next rule G → ((q : Cell) → contains G q ≡ true → IsWithin age q) →
    (q : Cell) → contains H q ≡ true → IsWithin (age + 1) q
within_next rule G H age is before q live =
    let near = next_near rule G q (sym (ap (λ (K : Generation). contains K q) is) ∙ live) in
    within_near age near.0 q (before near.0 near.1) near.2

pub within_later : (a b : ℕ) (c : Cell) → a ≤ b → IsWithin a c → IsWithin b c
within_later a b c k h = record { left = omega (arith, ints); right = omega (arith, ints); above = omega (arith, ints); below = omega (arith, ints) }
