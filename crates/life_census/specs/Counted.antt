-- The parts that sets that recur count as.
use Rattle.std.specs.Prelude.{◌≡◌, ℕ, Bool, List, [], ◌∷◌}
use Rattle.std.specs.List.{All}
use Rattle.life_model.specs.Cell.{Cell}
use Rattle.life_model.specs.Evolution.{generation}
use Rattle.life_model.specs.Generation.{Generation}
use Rattle.life_model.specs.Rule.{Rule}
use Rattle.life_model.specs.Symmetry.{translate_of}
use Rattle.life_objects.specs.Ash.{IsObject}
use Rattle.life_objects.specs.Union.{generations}
use Rattle.life_answer.specs.Census.{counted_parts}
use Rattle.life_answer.specs.Parts.{counted_codes}
use Rattle.life_answer.specs.declared.part.Part.{Part}
use Rattle.life_apart.specs.Sets.{IsCourseBy, sets_of}
use Rattle.life_orbit.specs.Course.{Course}

-- However P is moved, each of its later generations counts as objects with these codes, within each bound within which it
-- is an object.
abbrev pub CountsAs : Bool → Rule → Generation → List (List ℕ) → Type 0
CountsAs near R P codes =
    (d : Cell) (b n : ℕ) → IsObject R b (generation R (translate_of P d) n) →
    counted_parts near R b (generation R (translate_of P d) n ∷ []) ≡ counted_codes codes

-- The sets, n generations later, count as these parts, within each bound within which they are objects.
abbrev pub AreCounted : Bool → List Course → List Part → Type 0
AreCounted near os parts =
    (R : Rule) (b n : ℕ) → All (IsCourseBy R) os → All (IsObject R b) (generations R (sets_of os) n) →
    parts ≡ counted_parts near R b (generations R (sets_of os) n)
