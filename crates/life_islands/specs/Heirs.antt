-- The labels of the cells of the next generation.
use Rattle.std.specs.Prelude.{◌≡◌, ℕ, suc, ◌<◌, true, length, get_or}
use Rattle.life_model.specs.Cell.{Cell, origin, plus}
use Rattle.life_model.specs.Rule.{Rule}
use Rattle.life_model.specs.Generation.{Generation, cells, contains, empty}
use Rattle.life_model.specs.Evolution.{generation, next}
use Rattle.life_parts.specs.Parts.Ties.{AreTied}
use Rattle.life_islands.specs.declared.labels.Labels.{Labels}
use Rattle.life_classes.specs.Forest.{root}
use Rattle.life_islands.specs.Labels.{sets_of}
use Rattle.life_islands.specs.Splits.{AreTiedWithin}

-- a cell of this set to which the cell of the next generation is tied
pub record IsBorneBy (R : Rule) (G : Generation) (H : Generation) (P : Generation) (n : ℕ) (x : Cell) : Type 0 where
  pub cell : Cell
  pub has : contains H cell ≡ true
  pub tied : AreTied R P n cell (suc n) x

-- The cell would also be live if the label's set were alone, and wherever the cells of each set are tied, it is tied to one
-- of the label's set.
pub record IsHeir (R : Rule) (G : Generation) (L : Labels) (x : Cell) (label : ℕ) : Type 0 where
  pub within : label < length L.forest.items
  pub lives : contains (next R (get_or (sets_of G L) (root L.forest.items label) empty)) x ≡ true
  pub tied : (P : Generation) (n : ℕ) → generation R P n ≡ G → AreTiedWithin R P n (sets_of G L) →
      IsBorneBy R G (get_or (sets_of G L) (root L.forest.items label) empty) P n x

-- each of the cells, moved, is an heir with its label
abbrev pub AreHeirs : Rule → Generation → Labels → Cell → Generation → Labels → Type 0
AreHeirs R G L by H M =
    (m : ℕ) → m < length (cells H) →
    IsHeir R G L (plus (get_or (cells H) m origin) by) (get_or M.labels.items m 0)
