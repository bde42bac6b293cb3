-- Cells of the generations of a set that belong together.
use Rattle.std.specs.Prelude.{◌≡◌, ℕ, suc, ◌+◌, true, false}
use Rattle.life_model.specs.Cell.{Cell, IsNear, plus}
use Rattle.life_model.specs.Rule.{Rule}
use Rattle.life_model.specs.Generation.{Generation, contains}
use Rattle.life_model.specs.Evolution.{generation}
use Rattle.life_model.specs.Recurrence.{RecursBy}
use Rattle.life_parts.specs.Parts.Groups.{ColoursIslands, IsAround, IsFair, bears}

-- c is a cell of generation n
abbrev pub IsIn : Rule → Generation → ℕ → Cell → Type 0
IsIn R P n c = contains (generation R P n) c ≡ true

-- Cell c of generation n and cell e of generation m belong together. This is the least equivalence that keeps islands
-- together, ties what is born to what bears it, and joins groups of islands around a place that are not fair there: each
-- alone would make of it something other than what all make. What is tied after a period, when the set recurs, was tied
-- before.
pub data AreTied (R : Rule) (P : Generation) : ℕ → Cell → ℕ → Cell → Type 0 where
  itself : (n : ℕ) (c : Cell) → IsIn R P n c → AreTied R P n c n c
  swapped : (n m : ℕ) (c e : Cell) → AreTied R P n c m e → AreTied R P m e n c
  through : (n m k : ℕ) (c e f : Cell) → AreTied R P n c m e → AreTied R P m e k f → AreTied R P n c k f
  -- cells of a generation that touch
  touching : (n : ℕ) (c d : Cell) → IsIn R P n c → IsIn R P n d → IsNear c d → AreTied R P n c n d
  -- a cell that stays
  staying : (n : ℕ) (c : Cell) → IsIn R P n c → IsIn R P (suc n) c → AreTied R P n c (suc n) c
  -- What is born and the group that bears it, where groups of islands around a place, each tied within itself, are fair.
  bearing : (n : ℕ) (x : Cell) (colour : Cell → ℕ) → contains (generation R P n) x ≡ false →
      ColoursIslands (generation R P n) colour →
      ((c d : Cell) → IsAround (generation R P n) x c → IsAround (generation R P n) x d → colour c ≡ colour d →
      AreTied R P n c n d) →
      IsFair R (generation R P n) colour x →
      (c : Cell) → IsAround (generation R P n) x c → bears R (generation R P n) colour (colour c) x ≡ true →
      AreTied R P n c (suc n) x
  -- All islands around the place, and what is born there, where such groups are not fair.
  meeting : (n : ℕ) (x : Cell) (colour : Cell → ℕ) → contains (generation R P n) x ≡ false →
      ColoursIslands (generation R P n) colour →
      ((c d : Cell) → IsAround (generation R P n) x c → IsAround (generation R P n) x d → colour c ≡ colour d →
      AreTied R P n c n d) →
      (IsFair R (generation R P n) colour x → ⊥) →
      (c d : Cell) → IsAround (generation R P n) x c → IsAround (generation R P n) x d → AreTied R P n c n d
  meeting_born : (n : ℕ) (x : Cell) (colour : Cell → ℕ) → contains (generation R P n) x ≡ false →
      ColoursIslands (generation R P n) colour →
      ((c d : Cell) → IsAround (generation R P n) x c → IsAround (generation R P n) x d → colour c ≡ colour d →
      AreTied R P n c n d) →
      (IsFair R (generation R P n) colour x → ⊥) →
      (c : Cell) → IsAround (generation R P n) x c → IsIn R P (suc n) x → AreTied R P n c (suc n) x
  -- what is tied a whole period later, after which P recurs, moved by d
  before : (p : ℕ) (d : Cell) → RecursBy R P p d → (n m : ℕ) (c e : Cell) →
      AreTied R P (n + p) (plus c d) (m + p) (plus e d) → AreTied R P n c m e
