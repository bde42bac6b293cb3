-- Things that are placed later, and elsewhere.
use Rattle.std.specs.Prelude.{ℕ, ◌≤◌, None, Some, IfSome, List, [], ◌∷◌, Option}
use Rattle.life_model.specs.Cell.{Cell}
use Rattle.life_growth.specs.Things.{Thing}
use Rattle.life_things.specs.Lattice.Short.{IsWithin, way_limit}
use Rattle.life_things.specs.declared.way.Way.{Way}
use Rattle.life_things.specs.Ways.{IsFit, way_of}
use Rattle.life_growing.specs.declared.settling.placing.Placing.{Placing}
use Rattle.life_growing.specs.Settled.Things.{placed}

-- the greatest number of generations by which things are placed later
abbrev pub delay_limit : ℕ
delay_limit = 100000

-- an age within whose places the cells are before they are moved
abbrev pub placed_age_limit : ℕ
placed_age_limit = 410000

-- one way, or none
abbrev pub ways_of_one : Option Way → List (ℕ × Cell)
ways_of_one None = []
ways_of_one (Some w) = way_of w ∷ []

abbrev pub IsFitWay : Option Way → Type 0
IsFitWay way = IfSome way (λ w. IsFit (way_of w))

-- the move goes no further along each axis than a way does
pub record IsNearby (by : Cell) : Type 0 where
  pub across : IsWithin way_limit by.0
  pub along : IsWithin way_limit by.1

pub record IsPlacing (p : Placing) : Type 0 where
  pub time : p.time ≤ delay_limit
  pub by : IsNearby p.by
  pub way : IsFitWay p.way

-- the thing, placed
abbrev pub placed_by : Placing → Thing → Thing
placed_by p it = placed p.time p.by (ways_of_one p.way) it
