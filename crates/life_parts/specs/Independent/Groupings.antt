-- The ways to put the cells of a set into groups.
use Rattle.std.specs.Prelude.{◌-ℤ◌, Bool, not, ◌&&◌, nat_le, unsigned_abs, List, [], ◌∷◌, map, flat_map}
use Rattle.std.specs.List.{filter, list_any}
use Rattle.life_model.specs.Cell.{Cell}
use Rattle.life_model.specs.Generation.{Generation, cells, from_list, insert}
use Rattle.life_objects.specs.Decided.Tests.{each_pair}

-- the ways to add c to the groups: to one of them, or as a group of its own
abbrev pub ways_to_add : Cell → List Generation → List (List Generation)
ways_to_add c [] = (from_list (c ∷ []) ∷ []) ∷ []
ways_to_add c (Q ∷ Qs) = (insert Q c ∷ Qs) ∷ map (λ groups. Q ∷ groups) (ways_to_add c Qs)

-- each way to put the cells into groups
abbrev pub groupings_of : List Cell → List (List Generation)
groupings_of [] = [] ∷ []
groupings_of (c ∷ cs) = flat_map (ways_to_add c) (groupings_of cs)

-- true where two cells are neighbours or the same
abbrev pub touch : Cell → Cell → Bool
touch c d = nat_le (unsigned_abs (c.0 -ℤ d.0)) 1 && nat_le (unsigned_abs (c.1 -ℤ d.1)) 1

-- true where some cell of the set touches c
unfoldable pub touches : Cell → Generation → Bool
touches c H = list_any (touch c) (cells H)

-- true where no cell of any of the sets touches a cell of another
unfoldable pub are_untouching : List Generation → Bool
are_untouching Hs = each_pair (λ A B. not (list_any (λ c. touches c B) (cells A))) Hs

-- each way to put the cells of G into groups no two of which touch, so that each island stays whole
unfoldable pub splittings : Generation → List (List Generation)
splittings G = filter are_untouching (groupings_of (cells G))
