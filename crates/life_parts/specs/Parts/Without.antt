-- Cells of the generations of a set that belong together if some ways to put the islands around a place into groups are
-- passed over.
use Rattle.std.specs.Prelude.{◌≡◌, ℕ, suc, ◌+◌, true, false}
use Rattle.life_model.specs.Cell.{Cell, IsNear, plus}
use Rattle.life_model.specs.Rule.{Rule}
use Rattle.life_model.specs.Generation.{Generation, contains}
use Rattle.life_model.specs.Evolution.{generation}
use Rattle.life_model.specs.Recurrence.{RecursBy}
use Rattle.life_parts.specs.Parts.Groups.{ColoursIslands, IsAround, IsFair, bears}
use Rattle.life_parts.specs.Parts.Ties.{IsIn}

-- Like `AreTied`, except that groups that are passed over join nothing, though they are not fair.
pub data AreTiedWithout (R : Rule) (P : Generation) (Passed : Generation → (Cell → ℕ) → Cell → Type 0) :
    ℕ → Cell → ℕ → Cell → Type 0 where
  itself : (n : ℕ) (c : Cell) → IsIn R P n c → AreTiedWithout R P Passed n c n c
  swapped : (n m : ℕ) (c e : Cell) → AreTiedWithout R P Passed n c m e → AreTiedWithout R P Passed m e n c
  through : (n m k : ℕ) (c e f : Cell) → AreTiedWithout R P Passed n c m e → AreTiedWithout R P Passed m e k f →
      AreTiedWithout R P Passed n c k f
  -- cells of a generation that touch
  touching : (n : ℕ) (c d : Cell) → IsIn R P n c → IsIn R P n d → IsNear c d → AreTiedWithout R P Passed n c n d
  -- a cell that stays
  staying : (n : ℕ) (c : Cell) → IsIn R P n c → IsIn R P (suc n) c → AreTiedWithout R P Passed n c (suc n) c
  -- What is born and the group that bears it, where groups of islands around a place, each tied within itself, are fair.
  bearing : (n : ℕ) (x : Cell) (colour : Cell → ℕ) → contains (generation R P n) x ≡ false →
      ColoursIslands (generation R P n) colour →
      ((c d : Cell) → IsAround (generation R P n) x c → IsAround (generation R P n) x d → colour c ≡ colour d →
      AreTiedWithout R P Passed n c n d) →
      IsFair R (generation R P n) colour x →
      (c : Cell) → IsAround (generation R P n) x c → bears R (generation R P n) colour (colour c) x ≡ true →
      AreTiedWithout R P Passed n c (suc n) x
  -- All islands around the place, and what is born there, where such groups are not fair, and not passed over.
  meeting : (n : ℕ) (x : Cell) (colour : Cell → ℕ) → contains (generation R P n) x ≡ false →
      ColoursIslands (generation R P n) colour →
      ((c d : Cell) → IsAround (generation R P n) x c → IsAround (generation R P n) x d → colour c ≡ colour d →
      AreTiedWithout R P Passed n c n d) →
      (IsFair R (generation R P n) colour x → ⊥) → (Passed (generation R P n) colour x → ⊥) →
      (c d : Cell) → IsAround (generation R P n) x c → IsAround (generation R P n) x d → AreTiedWithout R P Passed n c n d
  meeting_born : (n : ℕ) (x : Cell) (colour : Cell → ℕ) → contains (generation R P n) x ≡ false →
      ColoursIslands (generation R P n) colour →
      ((c d : Cell) → IsAround (generation R P n) x c → IsAround (generation R P n) x d → colour c ≡ colour d →
      AreTiedWithout R P Passed n c n d) →
      (IsFair R (generation R P n) colour x → ⊥) → (Passed (generation R P n) colour x → ⊥) →
      (c : Cell) → IsAround (generation R P n) x c → IsIn R P (suc n) x → AreTiedWithout R P Passed n c (suc n) x
  -- what is tied a whole period later, after which P recurs, moved by d
  before : (p : ℕ) (d : Cell) → RecursBy R P p d → (n m : ℕ) (c e : Cell) →
      AreTiedWithout R P Passed (n + p) (plus c d) (m + p) (plus e d) → AreTiedWithout R P Passed n c m e
