-- Things in space and time, finitely many of which make up a growth for ever.
use Rattle.std.specs.Prelude.{◌≡◌, ℕ, suc, ◌+◌, ◌*◌, ◌<◌, ◌≤◌, ◌⊎◌, true, List, [], ◌∷◌}
use Rattle.std.specs.List.{Contains}
use Rattle.life_model.specs.Cell.{Cell, origin, plus}
use Rattle.life_model.specs.Generation.{Generation, contains}
use Rattle.life_model.specs.Rule.{Rule}
use Rattle.life_model.specs.Evolution.{generation}
use Rattle.life_model.specs.Recurrence.{RecursBy}
use Rattle.life_model.specs.Symmetry.{translate_of}
use Rattle.life_objects.specs.Apart.{AreApart}
use Rattle.life_objects.specs.Drift.{multiple_of}
use Rattle.life_objects.specs.Union.{IsSubsetOf}
use Rattle.life_growth.specs.Engine.{Way}

-- A set that is there at a time, and again after its ways, each taken any number of times. A way is a number of generations
-- and a move.
pub record Thing : Type 0 where
  pub time : ℕ
  pub set : Generation
  pub ways : List (ℕ × Cell)

-- the generations that the ways take, and the move that they make, each taken the number of times in `often`
abbrev pub time_of : List (ℕ × Cell) → List ℕ → ℕ
time_of [] often = 0
time_of (w ∷ ways) [] = 0
time_of (w ∷ ways) (k ∷ often) = k * w.0 + time_of ways often

abbrev pub move_of : List (ℕ × Cell) → List ℕ → Cell
move_of [] often = origin
move_of (w ∷ ways) [] = origin
move_of (w ∷ ways) (k ∷ often) = plus (multiple_of k w.1) (move_of ways often)

-- the time of a thing, and its set then, if its ways are taken `often` times each
abbrev pub time_then : Thing → List ℕ → ℕ
time_then thing often = thing.time + time_of thing.ways often

abbrev pub set_then : Thing → List ℕ → Generation
set_then thing often = translate_of thing.set (move_of thing.ways often)

-- the two are not near each other at any time at which both are there
abbrev pub NeverMeet : Thing → Thing → Type 0
NeverMeet A B = (k l : List ℕ) → time_then A k ≡ time_then B l → AreApart (set_then A k) (set_then B l)

-- Each generation of P is the union of all such things at that time.
pub record IsMadeOf (R : Rule) (P : Generation) (IsThing : Thing → Type 0) : Type 0 where
  pub each : (thing : Thing) → IsThing thing → (often : List ℕ) →
      IsSubsetOf (set_then thing often) (generation R P (time_then thing often))
  pub all : (t : ℕ) (c : Cell) → contains (generation R P t) c ≡ true →
      (thing : Thing) × IsThing thing × (often : List ℕ) × (time_then thing often ≡ t) ×
      (contains (set_then thing often) c ≡ true)

-- a thing of what is ash of these parts from generation a on: one of the generations before, or a phase of a part
abbrev pub IsSettledThing : Rule → ℕ → Generation → List Generation → Thing → Type 0
IsSettledThing R a P parts thing =
    ((m : ℕ) × (m < a) × (thing ≡ record { time = m; set = generation R P m; ways = [] }))
    ⊎ ((part : Generation) × Contains parts part × (q : ℕ) × (e : Cell) × (m : ℕ) × RecursBy R part q e × (m < q) ×
    (thing ≡ record { time = a + m; set = generation R part m; ways = (q, e) ∷ [] }))

-- the core of an engine at a step of its first period
abbrev pub core_thing : Way → ℕ → Thing
core_thing way n = record { time = n; set = way.core n; ways = (way.period, way.displacement) ∷ [] }

-- a thing of what leaves at a step, as it is then, once or again after each period
abbrev pub left_once : ℕ → Thing → Thing
left_once n thing = record { time = suc n + thing.time; set = thing.set; ways = thing.ways }

abbrev pub left_thing : Way → ℕ → Thing → Thing
left_thing way n thing = record {
  time = suc n + thing.time;
  set = thing.set;
  ways = (way.period, way.displacement) ∷ thing.ways;
}

-- a thing, a period later
abbrev pub a_period_later : Way → Thing → Thing
a_period_later way thing = record {
  time = thing.time + way.period;
  set = translate_of thing.set way.displacement;
  ways = thing.ways;
}

-- a thing of an engine, where these are the things of what leaves at each step: a core, or a thing of what leaves
abbrev pub IsEngineThing : Way → (ℕ → Thing → Type 0) → Thing → Type 0
IsEngineThing way IsLeft thing =
    ((n : ℕ) × (n < way.period) × (thing ≡ core_thing way n))
    ⊎ ((n : ℕ) × (n < way.period) × (it : Thing) × IsLeft n it × (thing ≡ left_thing way n it))

-- What leaves an engine never meets a core, nor what leaves later, where these are the things of what leaves at each step.
pub record NeverMeetAgain (way : Way) (IsLeft : ℕ → Thing → Type 0) : Type 0 where
  pub cores : (n k : ℕ) (it : Thing) → n < way.period → k < way.period → IsLeft n it →
      NeverMeet (left_once n it) (core_thing way k)
  pub later : (n k : ℕ) (it other : Thing) → n < k → k < way.period → IsLeft n it → IsLeft k other →
      NeverMeet (left_once n it) (left_thing way k other)
  pub again : (n k : ℕ) (it other : Thing) → n < way.period → k ≤ n → IsLeft n it → IsLeft k other →
      NeverMeet (left_once n it) (a_period_later way (left_thing way k other))

-- what leaves at each step is made of these things
abbrev pub AreThingsOfLefts : Rule → Way → (ℕ → Thing → Type 0) → Type 0
AreThingsOfLefts R way IsLeft = (n : ℕ) → n < way.period → IsMadeOf R (way.left n) (IsLeft n)

-- the things of what leaves at each step, which falls apart within b into these parts
abbrev pub lefts_within : Rule → ℕ → Way → (ℕ → List Generation) → ℕ → Thing → Type 0
lefts_within R b way ashes n = IsSettledThing R b (way.left n) (ashes n)

-- the things that a list has for each step
abbrev pub listed : (ℕ → List Thing) → ℕ → Thing → Type 0
listed lists n = Contains (lists n)
