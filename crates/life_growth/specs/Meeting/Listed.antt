-- The things of what falls apart and of an engine, as lists.
use Rattle.std.specs.Prelude.{ℕ, zero, suc, ◌+◌, List, [], ◌∷◌, ◌++◌, map, flat_map}
use Rattle.life_model.specs.Rule.{Rule}
use Rattle.life_model.specs.Generation.{Generation}
use Rattle.life_model.specs.Evolution.{generation}
use Rattle.life_objects.specs.Decided.Parts.{corner_offset, period}
use Rattle.life_growth.specs.Engine.{Way}
use Rattle.life_growth.specs.Things.{Thing, core_thing, left_thing}

abbrev pub numbers_below : ℕ → List ℕ
numbers_below zero = []
numbers_below (suc n) = n ∷ numbers_below n

-- generation m of P, which occurs once
abbrev pub first_thing : Rule → Generation → ℕ → Thing
first_thing R P m = record { time = m; set = generation R P m; ways = [] }

-- a phase of a part, from b on
abbrev pub part_thing : Rule → ℕ → Generation → ℕ → Thing
part_thing R b part m =
    record { time = b + m; set = generation R part m; ways = (period R b part, corner_offset R part (period R b part)) ∷ [] }

unfoldable pub settled_things : Rule → ℕ → Generation → List Generation → List Thing
settled_things R b P parts =
    map (first_thing R P) (numbers_below b)
    ++ flat_map (λ part. map (part_thing R b part) (numbers_below (period R b part))) parts

unfoldable pub engine_things : Rule → ℕ → Way → (ℕ → List Generation) → List Thing
engine_things R b way ashes =
    map (core_thing way) (numbers_below way.period)
    ++ flat_map (λ n. map (left_thing way n) (settled_things R b (way.left n) (ashes n))) (numbers_below way.period)
