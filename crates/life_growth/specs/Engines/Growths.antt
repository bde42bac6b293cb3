-- Divisions of a pattern into possible engines and debris.
use Rattle.std.specs.Prelude.{ℕ, suc, Bool, true, false, not, ◌&&◌, List, [], ◌∷◌, ◌++◌, map, filter}
use Rattle.std.specs.List.{list_all}
use Rattle.life_model.specs.Rule.{Rule}
use Rattle.life_model.specs.Generation.{Generation}
use Rattle.life_objects.specs.Union.{union_of}
use Rattle.life_objects.specs.Decided.Classes.{classes}
use Rattle.life_objects.specs.Decided.Tests.{each_below}
use Rattle.life_growth.specs.Engines.Tests.{falls_apart}
use Rattle.life_growth.specs.Engines.Tracks.{engine_tracks}

-- each choice of some of the elements, with the rest
abbrev pub divisions : List Generation → List (List Generation × List Generation)
divisions [] = ([], []) ∷ []
divisions (P ∷ Ps) = map (λ d. (P ∷ d.0, d.1)) (divisions Ps) ++ map (λ d. (d.0, P ∷ d.1)) (divisions Ps)

abbrev pub is_empty_list : {X : Type 0} → List X → Bool
is_empty_list [] = true
is_empty_list (x ∷ xs) = false

-- true where E comes back along some track of 1 to b steps
abbrev pub may_be_engine : Rule → ℕ → Generation → Bool
may_be_engine R b E = not (each_below (λ n. is_empty_list (engine_tracks R b (suc n) E)) b)

-- true where some sets are chosen, each of them may be an engine, and the others fall apart together
abbrev pub may_be_growth : Rule → ℕ → List Generation × List Generation → Bool
may_be_growth R b d =
    not (is_empty_list d.0) && (list_all (may_be_engine R b) d.0 && falls_apart R b (union_of d.1))

-- the engines and the debris that G may have: classes of G that may be engines, and the union of the others
unfoldable pub growths_of : Rule → ℕ → Generation → List (List Generation × Generation)
growths_of R b G = map (λ d. (d.0, union_of d.1)) (filter (may_be_growth R b) (divisions (classes R G (suc b))))
