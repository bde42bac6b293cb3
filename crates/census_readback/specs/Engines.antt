-- What the `engine` and `emits` rows after a line say, one after another.
use Rattle.std.specs.Prelude.{ℕ, pos, ◌+◌, Bool, false, true, not, ◌&&◌, ◌||◌, ◌==◌, if◌then◌else◌, Option, Some, None as Nothing, List, [], ◌∷◌, ◌++◌, drop, map}
use Rattle.std.specs.Option.{option_map}
use Rattle.std.specs.Ordering.{int_cmp, nat_cmp, ordering_then}
use Rattle.std.specs.declared.cmp.Ordering.{Ordering}
use Rattle.std.specs.declared.cmp.Ordering.TheVariants.{Less, Equal, Greater}
use Rattle.census_readback.specs.declared.engines as rust
use Rattle.census_readback.specs.declared.engines.Way.{Way}
use Rattle.census_readback.specs.Codes.{is_moving}
use Rattle.life_cells.specs.TextOrder.{shorter_cmp}
use Rattle.life_model.specs.Cell.{origin, same_cell}

-- what an `emits` row says: a code, and how often it is emitted
pub record Emitted : Type 0 where
  pub code : List ℕ
  pub count : ℕ

abbrev pub emitted_of : rust.Emitted.Emitted → Emitted
emitted_of e = record { code = e.code.now; count = e.count }

-- by code, and then by number
abbrev pub emitted_cmp : Emitted → Emitted → Ordering
emitted_cmp e f = ordering_then (shorter_cmp e.code f.code) (nat_cmp e.count f.count)

-- What the last `engine` row says, and the `emits` rows after it; which `emits` rows of the engine before it these are yet to
-- be compared with, if that goes the same way; and whether it emits something and comes after that engine.
pub record LastEngine : Type 0 where
  pub number : ℕ
  pub way : Way
  pub emits : List Emitted
  pub before : List Emitted
  pub rises : Bool

abbrev pub engine_of : rust.LastEngine.LastEngine → LastEngine
engine_of e = record {
  number = e.number;
  way = e.way;
  emits = map emitted_of e.emits.items;
  before = drop e.compared (map emitted_of e.before.items);
  rises = e.rises;
}

-- before any `engine` row
abbrev pub no_engine : LastEngine
no_engine = record { number = 0; way = record { period = 0; dx = pos 0; dy = pos 0 }; emits = []; before = []; rises = true }

-- by period, by how far to the right, and by how far down
abbrev pub way_cmp : Way → Way → Ordering
way_cmp v w = ordering_then (nat_cmp v.period w.period) (ordering_then (int_cmp v.dx w.dx) (int_cmp v.dy w.dy))

-- what an engine is to be compared with by what it emits, where the engine before it emits this, and the order compares that
-- engine's way with its own
abbrev pub to_compare : Ordering → List Emitted → Option (List Emitted)
to_compare Less emits = Some []
to_compare Equal emits = Some emits
to_compare Greater emits = Nothing

-- an engine of which no `emits` row is read yet
abbrev pub begun : ℕ → Way → List Emitted → LastEngine
begun number way before = record { number = number; way = way; emits = []; before = before; rises = false }

-- after an `engine` row: all of the engine before it is reported, and its number is the next
abbrev pub after_engine : LastEngine → ℕ → Way → Option LastEngine
after_engine e number way =
    if e.rises && (number == e.number + 1) then option_map (begun number way) (to_compare (way_cmp e.way way) e.emits) else Nothing

-- how it compares with the engine before it, by the next of their `emits` rows
abbrev pub compared_by : Ordering → LastEngine → List Emitted → Option LastEngine
compared_by Less e before = Some (record e { rises = true })
compared_by Equal e before = Some (record e { before = before })
compared_by Greater e before = Nothing

abbrev pub compared_with : List Emitted → LastEngine → Emitted → Option LastEngine
compared_with [] e next = Some (record e { rises = true })
compared_with (other ∷ before) e next = compared_by (emitted_cmp other next) e before

abbrev pub compared : LastEngine → Emitted → Option LastEngine
compared e next = if e.rises then Some e else compared_with e.before e next

abbrev pub with_emitted : Emitted → LastEngine → LastEngine
with_emitted next e = record e { emits = e.emits ++ next ∷ [] }

-- an engine that doesn't move can emit what has this code: only what moves gets away
abbrev pub gets_away : Way → List ℕ → Bool
gets_away way code = not (same_cell (way.dx, way.dy) origin) || is_moving code

-- after an `emits` row
abbrev pub after_emits : LastEngine → Emitted → Option LastEngine
after_emits e next = if gets_away e.way next.code then option_map (with_emitted next) (compared e next) else Nothing
