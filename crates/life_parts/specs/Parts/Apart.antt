-- Sets that make up a generation and are held apart in it.
use Rattle.std.specs.Prelude.{◌≡◌, ◌⊎◌, ℕ, true, false, List}
use Rattle.std.specs.List.{Contains}
use Rattle.life_model.specs.Cell.{Cell, IsNear}
use Rattle.life_model.specs.Rule.{Rule}
use Rattle.life_model.specs.Generation.{Generation, contains}
use Rattle.life_model.specs.Evolution.{next}
use Rattle.life_parts.specs.Parts.Groups.{ColoursIslands, IsAround, IsFair, bears}

-- the sets that have c have d too
abbrev pub HaveBoth : List Generation → Cell → Cell → Type 0
HaveBoth Hs c d = (H : Generation) → Contains Hs H → contains H c ≡ true → contains H d ≡ true

-- all live cells around the place are of one set
abbrev pub AreOfOneSet : Generation → List Generation → Cell → Type 0
AreOfOneSet G Hs x = (c d : Cell) → IsAround G x c → IsAround G x d → HaveBoth Hs c d

-- However the islands around the place are put into groups, each of them within one set, the groups are fair there,
-- and what a group bears its set bears too.
abbrev pub IsEachFair : Rule → Generation → List Generation → Cell → Type 0
IsEachFair R G Hs x =
    (colour : Cell → ℕ) → ColoursIslands G colour →
    ((c d : Cell) → IsAround G x c → IsAround G x d → colour c ≡ colour d → HaveBoth Hs c d) →
    IsFair R G colour x × ((c : Cell) → IsAround G x c → bears R G colour (colour c) x ≡ true → (H : Generation) →
    Contains Hs H → contains H c ≡ true → contains (next R H) x ≡ true)

-- Each island of G is within one set, and around each dead place the live cells are of one set or each grouping is
-- fair.
pub record AreHeldApart (R : Rule) (G : Generation) (Hs : List Generation) : Type 0 where
  pub islands : (c d : Cell) → contains G c ≡ true → contains G d ≡ true → IsNear c d → HaveBoth Hs c d
  pub places : (x : Cell) → contains G x ≡ false → AreOfOneSet G Hs x ⊎ IsEachFair R G Hs x
