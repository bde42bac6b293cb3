-- Births by the islands around a place: by each group of them alone, and by all of them together.
use Rattle.std.specs.Prelude.{◌≡◌, ℕ, ◌==◌, Bool, ◌&&◌, true}
use Rattle.life_model.specs.Cell.{Cell, IsNear}
use Rattle.life_model.specs.Rule.{Rule, born}
use Rattle.life_model.specs.Generation.{Generation, contains}
use Rattle.life_model.specs.Evolution.{count_at, next}

-- Cells of G that touch have the same colour. So each island has one colour, as its cells are joined by touching.
abbrev pub ColoursIslands : Generation → (Cell → ℕ) → Type 0
ColoursIslands G colour = (c d : Cell) → contains G c ≡ true → contains G d ≡ true → IsNear c d → colour c ≡ colour d

-- true where c is a cell of G in the group of this colour
abbrev pub in_group : Generation → (Cell → ℕ) → ℕ → Cell → Bool
in_group G colour k c = contains G c && (colour c == k)

-- true where the group, by itself, would bear a cell at x
abbrev pub bears : Rule → Generation → (Cell → ℕ) → ℕ → Cell → Bool
bears R G colour k x = born R (count_at (in_group G colour k) x)

-- The groups, each by itself, make of the place x what all together make of it: exactly one group bears a cell if one
-- is born, and none does if none is.
pub record IsFair (R : Rule) (G : Generation) (colour : Cell → ℕ) (x : Cell) : Type 0 where
  pub borne : contains (next R G) x ≡ true → (k : ℕ) × (bears R G colour k x ≡ true)
  pub born : (k : ℕ) → bears R G colour k x ≡ true → contains (next R G) x ≡ true
  pub one : (k l : ℕ) → bears R G colour k x ≡ true → bears R G colour l x ≡ true → k ≡ l

-- c is a cell of G that touches x
pub record IsAround (G : Generation) (x c : Cell) : Type 0 where
  pub live : contains G c ≡ true
  pub near : IsNear c x
