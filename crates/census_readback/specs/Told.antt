-- What the rows of a report say together.
use Rattle.std.specs.Prelude.{ℕ, ◌-◌, Bool, ◌&&◌, ◌==◌, nat_le, if◌then◌else◌, Option, Some, None as Nothing, List, [], ◌∷◌}
use Rattle.std.specs.Option.{option_map}
use Rattle.std.specs.Ordering.{is_lt}
use Rattle.census_rows.specs.Kinds.{Said, said, value_at}
use Rattle.census_rows.specs.declared.kinds.Behind.{Behind}
use Rattle.census_rows.specs.declared.kinds.Behind.TheVariants as behind
use Rattle.census_rows.specs.declared.kinds.Label.TheVariants as label
use Rattle.census_rows.specs.declared.row.Row.{Row}
use Rattle.census_rows.specs.declared.row.Row.TheVariants.{Line, Part, Engine, Emits, End}
use Rattle.census_readback.specs.Engines.{LastEngine, after_emits, after_engine, engine_of, no_engine}
use Rattle.census_readback.specs.Lawful.{is_lawful, number_in}
use Rattle.census_readback.specs.declared.told as rust
use Rattle.life_cells.specs.TextOrder.{shorter_cmp}

-- the collection of the last line, how many of its objects or engines are yet to be reported by rows after it, the last code
-- that such a row has, and the last engine
pub record Told : Type 0 where
  pub collection : ℕ
  pub left : ℕ
  pub last : List ℕ
  pub engine : LastEngine

abbrev pub told_of : rust.Told.Told → Told
told_of told = record {
  collection = told.collection;
  left = told.left;
  last = told.last.now;
  engine = engine_of told.engine;
}

-- before any row
abbrev pub nothing_told : Told
nothing_told = record { collection = 0; left = 0; last = []; engine = no_engine }

-- how many objects or engines the rows after it have to report
abbrev pub to_tell : Behind → Said → ℕ
to_tell behind.Nothing what = 0
to_tell behind.Parts what = number_in (value_at label.Objects what.fields)
to_tell behind.Engines what = number_in (value_at label.Engines what.fields)

-- all objects or engines of the last line are reported
abbrev pub is_told : Told → Bool
is_told t = (t.left == 0) && t.engine.rises

-- after a `line` row: the objects or engines of the line before are reported
abbrev pub line_told : Told → ℕ → Said → Option Told
line_told t collection what =
    if is_told t then Some (record { collection = collection; left = to_tell what.behind what; last = []; engine = no_engine }) else Nothing

-- after a `part` row: it comes after its line, its code after the one before it, and at least `count` objects are left
abbrev pub part_told : Told → ℕ → List ℕ → ℕ → Option Told
part_told t collection code count =
    if (collection == t.collection) && (nat_le count t.left && is_lt (shorter_cmp t.last code)) then Some (record t { left = t.left - count; last = code }) else Nothing

abbrev pub with_engine : Told → ℕ → List ℕ → LastEngine → Told
with_engine t left last engine = record t { left = left; last = last; engine = engine }

-- after an `engine` row: it comes after its line, and at least `count` engines are left
abbrev pub engine_told : Told → ℕ → ℕ → Option LastEngine → Option Told
engine_told t collection count engine =
    if (collection == t.collection) && nat_le count t.left
    then option_map (with_engine t (t.left - count) []) engine
    else Nothing

-- after an `emits` row: it comes after its engine, and its code after the one before it
abbrev pub emits_told : Told → ℕ → ℕ → List ℕ → ℕ → Option Told
emits_told t collection engine code count =
    if (collection == t.collection) && ((engine == t.engine.number) && is_lt (shorter_cmp t.last code))
    then option_map (with_engine t t.left code) (after_emits t.engine (record { code = code; count = count }))
    else Nothing

-- after a row of another kind
abbrev pub told_so_far : Told → Option Told
told_so_far t = if is_told t then Some (record t { engine = no_engine }) else Nothing

-- what is told after a row
abbrev pub told_next : Told → Row → Option Told
told_next t (Line collection pattern outcome name) = line_told t collection (said outcome)
told_next t (Part collection pattern code count) = part_told t collection code.now count
told_next t (Engine collection pattern number period dx dy count) = engine_told t collection count (after_engine t.engine number (record { period = period; dx = dx; dy = dy }))
told_next t (Emits collection pattern engine code count) = emits_told t collection engine code.now count
told_next t (End collections patterns) = if is_told t then Some nothing_told else Nothing
told_next t _ = told_so_far t

-- after a row that is lawful by itself
abbrev pub told_after : Told → Row → Option Told
told_after t row = if is_lawful row then told_next t row else Nothing

-- after these rows
abbrev pub told_by : Told → List Row → Option Told
told_by t [] = Some t
told_by t (row ∷ rows) = elim (told_after t row) [ Nothing ↦ Nothing | Some u ↦ told_by u rows ]
