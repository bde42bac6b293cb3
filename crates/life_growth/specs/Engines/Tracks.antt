-- The tracks that an engine may go along, step by step.
use Rattle.std.specs.Prelude.{ℕ, zero, suc, Bool, not, ◌&&◌, ◌||◌, nat_eq, List, [], ◌∷◌, length, map, flat_map, filter}
use Rattle.life_model.specs.Cell.{opposite, plus}
use Rattle.life_model.specs.Rule.{Rule}
use Rattle.life_model.specs.Generation.{Generation, empty}
use Rattle.life_model.specs.Evolution.{next}
use Rattle.life_model.specs.Symmetry.{corner, normal}
use Rattle.life_objects.specs.Union.{union, union_of}
use Rattle.life_objects.specs.Decided.Classes.{classes, dies_out}
use Rattle.life_objects.specs.Decided.Tests.{each_below, same_set}
use Rattle.life_growth.specs.Engine.{Way}
use Rattle.life_growth.specs.Engines.Tests.{falls_apart, is_unsplit}

-- a core, and what left in the step to it
abbrev pub Step : Type 0
Step = Generation × Generation

-- each of the sets, with the union of the others
abbrev pub each_with_others : List Generation → List Step
each_with_others [] = []
each_with_others (P ∷ Ps) = (P, union_of Ps) ∷ map (λ s. (s.0, union P s.1)) (each_with_others Ps)

-- the steps from P: to a class of its next generation, where the union of the other classes falls apart
unfoldable pub steps_from : Rule → ℕ → Generation → List Step
steps_from R b P = filter (λ s. falls_apart R b s.1) (each_with_others (classes R (next R P) (suc b)))

-- all tracks of n steps from P
unfoldable pub tracks : Rule → ℕ → ℕ → Generation → List (List Step)
tracks R b zero P = [] ∷ []
tracks R b (suc n) P = flat_map (λ s. map (λ track. s ∷ track) (tracks R b n s.0)) (steps_from R b P)

-- the core after n steps along a track from P
abbrev pub core_along : Generation → List Step → ℕ → Generation
core_along P track zero = P
core_along P [] (suc n) = P
core_along P (s ∷ track) (suc n) = core_along s.0 track n

-- what leaves in the step after that
abbrev pub left_along : List Step → ℕ → Generation
left_along [] n = empty
left_along (s ∷ track) zero = s.1
left_along (s ∷ track) (suc n) = left_along track n

-- the way along a track from E
abbrev pub way_along : Generation → List Step → Way
way_along E track = record {
  period = length track;
  displacement = plus (opposite (corner E)) (corner (core_along E track (length track)));
  core = core_along E track;
  left = left_along track;
}

-- true where P is Q, moved
abbrev pub is_moved : Generation → Generation → Bool
is_moved P Q = same_set (normal P) (normal Q)

-- True where a track comes back to E at its end, moved, and not before, all its cores are unsplit, and something that
-- left lives on.
abbrev pub comes_back : Rule → ℕ → Generation → List Step → Bool
comes_back R b E track =
    let way = way_along E track in
    is_moved (way.core way.period) E
    && (each_below (λ n. nat_eq n 0 || not (is_moved (way.core n) E)) way.period
    && (each_below (λ n. is_unsplit R b (way.core n)) (suc way.period)
    && not (each_below (λ n. dies_out R b (way.left n)) way.period)))

-- the tracks of n steps that come back
unfoldable pub engine_tracks : Rule → ℕ → ℕ → Generation → List (List Step)
engine_tracks R b n E = filter (comes_back R b E) (tracks R b n E)
