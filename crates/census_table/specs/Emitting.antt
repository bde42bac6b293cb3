-- Engines in reports, and what they emit.
use Rattle.std.specs.Prelude.{ℕ, ℤ, pos, Bool, false, ◌&&◌, ◌==◌, if◌then◌else◌, Option, Some, None, List, [], ◌∷◌}
use Rattle.std.specs.List.{list_all, take_while}
use Rattle.std.specs.Option.{option_or}
use Rattle.std.specs.Ordering.{int_eq}
use Rattle.census_rows.specs.declared.row.Row.{Row}
use Rattle.census_rows.specs.declared.row.Row.TheVariants.{Engine, Emits}
use Rattle.census_readback.specs.Following.{is_emits}
use Rattle.census_table.specs.Entries.{entry_of_row}
use Rattle.census_table.specs.declared.engine.Emitted.{Emitted}
use Rattle.census_table.specs.declared.engine.EngineKind.{EngineKind}
use Rattle.census_table.specs.declared.engine.EngineKind.TheVariants.{Gun, Rake, Puffer}
use Rattle.census_table.specs.declared.engine.EngineTold.{EngineTold}
use Rattle.census_table.specs.declared.engine.Last.{Last}
use Rattle.census_table.specs.declared.entry.Entry.{Entry}

-- true where the code begins with `xq`
abbrev pub is_spaceship : List ℕ → Bool
is_spaceship (first ∷ second ∷ rest) = (first == 120) && (second == 113)
is_spaceship _ = false

abbrev pub emits_spaceship : Row → Bool
emits_spaceship (Emits collection pattern engine code count) = is_spaceship code.now
emits_spaceship _ = false

abbrev pub stays : ℤ → ℤ → Bool
stays dx dy = int_eq dx (pos 0) && int_eq dy (pos 0)

-- a gun stays in its place, a rake moves and emits only spaceships, and any other engine is a puffer
abbrev pub engine_kind : ℤ → ℤ → List Row → EngineKind
engine_kind dx dy emits = if stays dx dy then Gun else (if list_all emits_spaceship emits then Rake else Puffer)

-- the engines that a row reports, where the first of these rows after it report what each emits
abbrev pub engine_of_row : Row → List Row → Option EngineTold
engine_of_row (Engine collection pattern number period dx dy count) rows =
    Some (record { number = number; kind = engine_kind dx dy (take_while is_emits rows); period = period; dx = dx; dy = dy; count = count })
engine_of_row _ rows = None

-- nothing, as before any row
abbrev pub no_last : Last
no_last = record { pattern = None; engine = None }

-- the pattern and the engines reported last after a row that these follow, in the collection that `heading` opens and that has
-- this number
abbrev pub last_after : ℕ → Row → Last → Row → List Row → Last
last_after number heading last row rows =
    record { pattern = option_or (entry_of_row number heading row) last.pattern; engine = option_or (engine_of_row row rows) last.engine }

-- the objects of one code that a row reports as emitted by these engines
abbrev pub emitted_by : Option Entry → Option EngineTold → Row → Option Emitted
emitted_by (Some pattern) (Some engine) (Emits c i number code count) = Some (record { pattern = pattern; engine = engine; code = code; count = count })
emitted_by _ _ row = None

abbrev pub emitted_of : Last → Row → Option Emitted
emitted_of last row = emitted_by last.pattern last.engine row
