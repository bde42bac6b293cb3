-- The objects into which a pattern falls apart, counted by codes.
use Rattle.std.specs.Prelude.{ℕ, ◌*◌, ◌==◌, List, [], Bool, Option, Some, None, is_some, map, unwrap_or, if◌then◌else◌}
use Rattle.life_model.specs.Rule.{Rule}
use Rattle.life_model.specs.Generation.{Generation}
use Rattle.life_model.specs.Evolution.{generation}
use Rattle.life_objects.specs.Decided.Decided.{ash_of}
use Rattle.life_answer.specs.Answers.{outcome_of}
use Rattle.life_answer.specs.Counted.{code_bound, counted_of}
use Rattle.life_answer.specs.Parts.{counted_codes, objects_in}
use Rattle.life_answer.specs.Recurrence.{first_from}
use Rattle.life_answer.specs.declared.part.Part.{Part}
use Rattle.life_answer.specs.declared.tale.Engines.{Engines}
use Rattle.life_answer.specs.declared.finding.Outcome.{Outcome}
use Rattle.life_answer.specs.declared.finding.Outcome.TheVariants.{Ash, Grows, Recurs, Unresolved}

-- the code that was found, or no bytes
abbrev pub code_found : Outcome → List ℕ
code_found (Recurs onset period dx dy code) = code
code_found _ = []

-- the parts that were found, or none
abbrev pub parts_found : Outcome → List Part
parts_found (Ash onset parts) = parts
parts_found _ = []

-- the engines that were found, or none
abbrev pub engines_found : Outcome → List Engines
engines_found (Grows engines) = engines
engines_found _ = []

-- the code that is found for a part alone
abbrev pub part_code : Rule → ℕ → Generation → List ℕ
part_code R b P = code_found (outcome_of R P b)

-- true where generation n is ash within b
abbrev pub is_ash_then : Rule → Generation → ℕ → ℕ → Bool
is_ash_then R G b n = is_some (ash_of R b (generation R G n))

-- the first generation up to generation b that is ash within b, if generation b is
unfoldable pub ash_onset : Rule → Generation → ℕ → ℕ
ash_onset R G b = unwrap_or (first_from (is_ash_then R G b) 0 b) b

-- the sets that objects count as, counted by the codes that are found for each alone
abbrev pub counted_parts : Bool → Rule → ℕ → List Generation → List Part
counted_parts near R b Ps = counted_codes (map (part_code R (code_bound b)) (counted_of near R b Ps))

abbrev pub census_found : Bool → Rule → ℕ → ℕ → Option (List Generation) → Outcome
census_found near R b onset None = Unresolved
census_found near R b onset (Some objects) = Ash onset (counted_parts near R b objects)

-- The outcome of a set that is to fall apart within b: the onset of its ash, and the objects into which generation b falls
-- apart, if it does, or the independent parts of these.
unfoldable pub census_of : Bool → Rule → Generation → ℕ → Outcome
census_of near R G b = census_found near R b (ash_onset R G b) (ash_of R b (generation R G b))

-- the recurrence of a pattern that was found to have fallen apart into exactly one part, and otherwise what was found
abbrev pub unless_one : Outcome → Outcome → Outcome
unless_one recurring (Ash onset parts) = if objects_in parts == 1 then recurring else Ash onset parts
unless_one recurring found = found

-- The outcome reported for a set that is to fall apart within b. If one part is left, it is the outcome of the set: it recurs as
-- that part does, from the onset of its ash on. Neither the onset nor the period is more than b.
abbrev pub fallen_of : Bool → Rule → Generation → ℕ → Outcome
fallen_of near R G b = unless_one (outcome_of R G (2 * b)) (census_of near R G b)
