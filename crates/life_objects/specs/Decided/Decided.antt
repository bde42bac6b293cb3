-- The parts of which a set is ash.
use Rattle.std.specs.Prelude.{ℕ, suc, Bool, not, ◌&&◌, List, map, Option, Some, None, nat_lt, if◌then◌else◌}
use Rattle.std.specs.List.{filter, list_all}
use Rattle.life_model.specs.Rule.{Rule}
use Rattle.life_model.specs.Generation.{Generation, empty}
use Rattle.life_model.specs.Evolution.{generation}
use Rattle.life_objects.specs.Union.{union_of}
use Rattle.life_objects.specs.Decided.Tests.{each_below, each_pair, same_set}
use Rattle.life_objects.specs.Decided.Classes.{classes, dies_out, is_undivided}
use Rattle.life_objects.specs.Decided.Parts.{part_of, period, stay_apart}

-- true where P has cells, recurs within b, and is in one piece
abbrev pub is_object : Rule → ℕ → Generation → Bool
is_object R b P =
    not (same_set P empty) && (nat_lt 0 (period R b P)
    && each_below (λ n. is_undivided R b (generation R P n)) b)

-- true where G is ash of these parts
unfoldable pub is_ash : Rule → ℕ → Generation → List Generation → Bool
is_ash R b G parts =
    same_set (union_of parts) G && (list_all (is_object R b) parts && each_pair (stay_apart R b) parts)

-- for each class of G that lives through b, the part that it would be
unfoldable pub candidate_parts : Rule → ℕ → Generation → List Generation
candidate_parts R b G = map (part_of R b) (filter (λ L. not (dies_out R b L)) (classes R G (suc b)))

-- The parts of which G is ash within b, each in the place of its class; None where it is not ash.
unfoldable pub ash_of : Rule → ℕ → Generation → Option (List Generation)
ash_of R b G = if is_ash R b G (candidate_parts R b G) then Some (candidate_parts R b G) else None
