-- The independent parts of a set: the classes of its cells that belong together.
use Rattle.std.specs.Prelude.{◌≡◌, ◌≢◌, true, List}
use Rattle.std.specs.List.{All, AllPairs, AllZip, flat_map}
use Rattle.life_model.specs.Cell.{Cell}
use Rattle.life_model.specs.Rule.{Rule}
use Rattle.life_model.specs.Generation.{Generation, contains, empty}
use Rattle.life_objects.specs.Apart.{AreDisjoint}
use Rattle.life_objects.specs.Union.{IsSubsetOf, union_of}
use Rattle.life_parts.specs.Parts.Ties.{AreTied}

-- Q is some cells of P that are tied to one another, and to no other cell of P.
pub record IsIndependentPart (R : Rule) (P Q : Generation) : Type 0 where
  pub nonempty : Q ≢ empty
  pub within : IsSubsetOf Q P
  pub tied : (c d : Cell) → contains Q c ≡ true → contains Q d ≡ true → AreTied R P 0 c 0 d
  pub whole : (c d : Cell) → contains Q c ≡ true → AreTied R P 0 c 0 d → contains Q d ≡ true

-- These are the independent parts of P, each of them once.
pub record AreIndependentParts (R : Rule) (P : Generation) (Qs : List Generation) : Type 0 where
  pub together : union_of Qs ≡ P
  pub parts : All (IsIndependentPart R P) Qs
  pub once : AllPairs AreDisjoint Qs

-- Each list is the independent parts of the set in its place.
abbrev pub ArePartsOfEach : Rule → List Generation → List (List Generation) → Type 0
ArePartsOfEach R Ps lists = AllZip (AreIndependentParts R) Ps lists

-- the lists, one after the other
abbrev pub joined : List (List Generation) → List Generation
joined lists = flat_map (λ Qs. Qs) lists
