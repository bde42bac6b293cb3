-- Sets that make up a set, and two of them that belong together.
use Rattle.std.specs.Prelude.{◌≡◌, ◌≢◌, ◌⊎◌, ℕ, ◌<◌, true, false, List, length, get_or}
use Rattle.std.specs.List.{All, AllPairs, Contains}
use Rattle.life_model.specs.Cell.{Cell, IsNear}
use Rattle.life_model.specs.Rule.{Rule}
use Rattle.life_model.specs.Generation.{Generation, contains, empty}
use Rattle.life_model.specs.Evolution.{generation}
use Rattle.life_objects.specs.Apart.{AreDisjoint}
use Rattle.life_objects.specs.Union.{IsSubsetOf, union_of}
use Rattle.life_parts.specs.Parts.Apart.{AreOfOneSet, HaveBoth, IsEachFair}
use Rattle.life_parts.specs.Parts.Ties.{AreTied}

-- G is the union of these sets, of which no two share a cell
pub record MakeUp (G : Generation) (Hs : List Generation) : Type 0 where
  pub together : union_of Hs ≡ G
  pub once : AllPairs AreDisjoint Hs

-- cells of G that a chain of touching cells connects
pub data AreJoined (G : Generation) : Cell → Cell → Type 0 where
  alone : (c : Cell) → contains G c ≡ true → AreJoined G c c
  beside : (c e : Cell) → contains G c ≡ true → contains G e ≡ true → IsNear c e → AreJoined G c e
  turned : (c e : Cell) → AreJoined G c e → AreJoined G e c
  chained : (c e f : Cell) → AreJoined G c e → AreJoined G e f → AreJoined G c f

-- Some cells of G that chains of touching cells connect.
pub record IsPiece (G A : Generation) : Type 0 where
  pub within : IsSubsetOf A G
  pub joined : (c e : Cell) → contains A c ≡ true → contains A e ≡ true → AreJoined G c e

-- no cell of A touches a cell of B
abbrev pub AreUntouched : Generation → Generation → Type 0
AreUntouched A B = (c e : Cell) → contains A c ≡ true → contains B e ≡ true → IsNear c e → ⊥

-- G is the union of these islands
pub record AreIslands (G : Generation) (As : List Generation) : Type 0 where
  pub together : union_of As ≡ G
  pub pieces : All (IsPiece G) As
  pub apart : AllPairs AreUntouched As

-- cells of G that touch are of one set
abbrev pub AreOfWholeIslands : Generation → List Generation → Type 0
AreOfWholeIslands G Hs = (c e : Cell) → contains G c ≡ true → contains G e ≡ true → IsNear c e → HaveBoth Hs c e

-- G is the union of these islands, and that of these sets, each of which has whole islands.
pub record AreLaidOut (G : Generation) (isles Hs : List Generation) : Type 0 where
  pub islands : AreIslands G isles
  pub make_up : MakeUp G Hs
  pub whole : AreOfWholeIslands G Hs

-- the cells of each of the sets are tied in generation n of P
abbrev pub AreTiedWithin : Rule → Generation → ℕ → List Generation → Type 0
AreTiedWithin R P n Hs =
    (H : Generation) → Contains Hs H → (c e : Cell) → contains H c ≡ true → contains H e ≡ true → AreTied R P n c n e

-- two of the sets, by their places, and a cell of each
pub record AreOfTwo (Hs : List Generation) (i j : ℕ) (c e : Cell) : Type 0 where
  pub first : i < length Hs
  pub second : j < length Hs
  pub differ : i ≢ j
  pub in_first : contains (get_or Hs i empty) c ≡ true
  pub in_second : contains (get_or Hs j empty) e ≡ true

-- Two of the sets that make up a generation have cells that are tied wherever the cells of each set are tied.
pub record IsLink (R : Rule) (G : Generation) (Hs : List Generation) (link : ℕ × ℕ) : Type 0 where
  pub cell : Cell
  pub other : Cell
  pub two : AreOfTwo Hs link.0 link.1 cell other
  pub tied : (P : Generation) (n : ℕ) → generation R P n ≡ G → AreTiedWithin R P n Hs → AreTied R P n cell n other

-- all cells around the place are of one set, or all ways to put them into groups of one set each are fair
abbrev pub IsSettled : Rule → Generation → List Generation → Cell → Type 0
IsSettled R G Hs x = AreOfOneSet G Hs x ⊎ IsEachFair R G Hs x

-- each place near the cell is settled
abbrev pub IsSettledNear : Rule → Generation → List Generation → Cell → Type 0
IsSettledNear R G Hs c = (x : Cell) → IsNear x c → contains G x ≡ false → IsSettled R G Hs x
