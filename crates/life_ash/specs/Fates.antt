-- The fate of a pattern whose generations may have no more than some number of cells.
use Rattle.std.specs.Prelude.{◌≡◌, ℕ, ◌*◌, ◌≤◌, List, None, Option, Some}
use Rattle.std.specs.Bool.{OnTrue}
use Rattle.std.specs.List.{All}
use Rattle.life_model.specs.Generation.{Generation}
use Rattle.life_model.specs.Rule.{Rule}
use Rattle.life_model.specs.Evolution.{generation}
use Rattle.life_objects.specs.Ash.{HasFallenApart, IsAsh}
use Rattle.life_answer.specs.Limited.{first_past}
use Rattle.life_apart.specs.Sets.{IsCourseBy, sets_of}
use Rattle.life_apart.specs.Onsets.Moments.{IsMomentOf}
use Rattle.life_ash.specs.declared.pattern_fate.Fate.{Fate}
use Rattle.life_ash.specs.declared.pattern_fate.Fate.TheVariants.{Ash, Large, Unresolved}

-- no generation from 0 to three times the bound is past the limit
abbrev pub IsSmallEnough : Rule → Generation → ℕ → Option ℕ → Type 0
IsSmallEnough R G b limit = first_past limit R G (3 * b) ≡ None

-- some generation of G, however late, is ash within some bound
abbrev pub EndsLater : Rule → Generation → Type 0
EndsLater R G = (b : ℕ) × (n : ℕ) × (parts : List Generation) × IsAsh R b (generation R G n) parts

-- The fate of G within b: it falls apart, and then a generation up to b is ash of these parts, and the trail has some of its
-- generations; or it doesn't, and if `ends` it falls apart later; or this generation is the first past the limit.
abbrev pub IsFate : Rule → Generation → ℕ → Option ℕ → Fate → Type 0
IsFate R G b limit (Ash parts age trail) =
    IsSmallEnough R G b limit × (age ≤ b) × IsAsh R b (generation R G age) (sets_of parts) × All (IsCourseBy R) parts ×
    All (IsMomentOf R G) trail
IsFate R G b limit (Unresolved ends) =
    IsSmallEnough R G b limit × ((parts : List Generation) → HasFallenApart R b G parts → ⊥) × OnTrue ends (EndsLater R G)
IsFate R G b limit (Large n) = first_past limit R G (3 * b) ≡ Some n
