-- The independent parts of a set that recurs, as a function of the set.
use Rattle.std.specs.Prelude.{ℕ, nat_le, List, [], ◌∷◌, length, if◌then◌else◌}
use Rattle.std.specs.List.{filter}
use Rattle.life_model.specs.Rule.{Rule}
use Rattle.life_model.specs.Generation.{Generation}
use Rattle.life_objects.specs.Decided.Parts.{corner_offset, period}
use Rattle.life_parts.specs.Independent.Groupings.{splittings}
use Rattle.life_parts.specs.Independent.Held.{are_held_apart_through}

-- the first of the longest of the lists
abbrev pub longest : {X : Type 0} → List (List X) → List X
longest [] = []
longest (xs ∷ rest) = if nat_le (length (longest rest)) (length xs) then xs else longest rest

-- Of all ways to split P into sets that are held apart through its period, the first with the most sets. P recurs within b.
unfoldable pub independent_parts_of : Rule → ℕ → Generation → List Generation
independent_parts_of R b P =
    let p = period R b P in
    longest (filter (are_held_apart_through R P p (corner_offset R P p)) (splittings P))
