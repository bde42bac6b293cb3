-- The sets that are counted for a pattern that has fallen apart.
use Rattle.std.specs.Prelude.{ℕ, ◌+◌, Bool, true, false, List, [], ◌∷◌, flat_map, nat_lt, if◌then◌else◌}
use Rattle.std.specs.List.{list_all}
use Rattle.life_model.specs.Rule.{Rule}
use Rattle.life_model.specs.Generation.{Generation}
use Rattle.life_objects.specs.Limits.{objects_bound_limit}
use Rattle.life_objects.specs.Decided.Parts.{period}
use Rattle.life_parts.specs.Independent.Independent.{independent_parts_of}

-- true where each of the sets recurs within b
abbrev pub all_come_again : Rule → ℕ → List Generation → Bool
all_come_again R b Qs = list_all (λ Q. nat_lt 0 (period R b Q)) Qs

-- The independent parts of an object; or the object itself, if one of the parts takes more than 100,000 generations to recur,
-- as one might that changes places with others.
abbrev pub parts_or_whole : Rule → Generation → List Generation → List Generation
parts_or_whole R P Qs = if all_come_again R objects_bound_limit Qs then Qs else (P ∷ [])

-- the sets that an object counts as: itself, if things near one another are one object, and otherwise its independent parts
abbrev pub counted_as : Bool → Rule → ℕ → Generation → List Generation
counted_as true R b P = P ∷ []
counted_as false R b P = parts_or_whole R P (independent_parts_of R b P)

-- the sets that objects count as
abbrev pub counted_of : Bool → Rule → ℕ → List Generation → List Generation
counted_of near R b Ps = flat_map (counted_as near R b) Ps

-- a bound within which each of these recurs
abbrev pub code_bound : ℕ → ℕ
code_bound b = objects_bound_limit + b
