-- The things in space and time that make up a set that falls apart.
use Rattle.std.specs.Prelude.{ℕ, zero, suc, ◌+◌, List, [], ◌∷◌, ◌++◌, flat_map, get_or, length}
use Rattle.life_model.specs.Cell.{Cell}
use Rattle.life_model.specs.Evolution.{generation}
use Rattle.life_model.specs.Generation.{Generation, empty}
use Rattle.life_model.specs.Symmetry.{translate_of}
use Rattle.life_growth.specs.Things.{Thing}
use Rattle.life_orbit.specs.Course.{Course}
use Rattle.life_growing.specs.Settled.Settling.{Settling}

-- the first n of some things
abbrev pub first_things : (ℕ → Thing) → ℕ → List Thing
first_things f zero = []
first_things f (suc n) = first_things f n ++ f n ∷ []

-- a generation before the set is ash, as a thing that is there once
abbrev pub early_thing : List Generation → ℕ → Thing
early_thing early n = record { time = n; set = get_or early n empty; ways = [] }

-- each generation before the set is ash, as a thing
abbrev pub early_things : List Generation → List Thing
early_things early = first_things (early_thing early) (length early)

-- a phase of a part that is there from the generation `since` on, as a thing that recurs
abbrev pub phase_thing : ℕ → Course → ℕ → Thing
phase_thing since o m = record {
  time = since + m;
  set = generation o.rule o.set m;
  ways = (o.period, o.displacement) ∷ [];
}

-- each phase of a part, as a thing
abbrev pub phase_things : ℕ → Course → List Thing
phase_things since o = first_things (phase_thing since o) o.period

-- the phases of each part
abbrev pub part_things : ℕ → List Course → List Thing
part_things since parts = flat_map (phase_things since) parts

-- each generation before the set is ash, and each phase of each part
abbrev pub things_of : Settling → List Thing
things_of s = early_things s.early ++ part_things (length s.early) s.parts

-- a thing `time` generations later, moved, and with other ways before its own
abbrev pub placed : ℕ → Cell → List (ℕ × Cell) → Thing → Thing
placed time by ways it = record {
  time = time + it.time;
  set = translate_of it.set by;
  ways = ways ++ it.ways;
}
