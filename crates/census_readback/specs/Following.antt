-- The rows after a `line` row.
use Rattle.std.specs.Prelude.{Bool, true, false, List}
use Rattle.std.specs.List.{take_while}
use Rattle.census_rows.specs.declared.kinds.Behind.{Behind}
use Rattle.census_rows.specs.declared.kinds.Behind.TheVariants as behind
use Rattle.census_rows.specs.declared.row.Row.{Row}
use Rattle.census_rows.specs.declared.row.Row.TheVariants.{Part, Engine, Emits}
use Rattle.census_readback.specs.Sections.{same_behind}

-- a row belongs after a line that is followed by rows of this kind
abbrev pub stands_behind : Behind → Row → Bool
stands_behind kind (Part collection pattern code count) = same_behind kind behind.Parts
stands_behind kind (Engine collection pattern number period dx dy count) = same_behind kind behind.Engines
stands_behind kind (Emits collection pattern engine code count) = same_behind kind behind.Engines
stands_behind kind _ = false

-- those that belong after such a line, from the first on
abbrev pub rows_behind : Behind → List Row → List Row
rows_behind kind rows = take_while (stands_behind kind) rows

-- the row says what an engine emits
abbrev pub is_emits : Row → Bool
is_emits (Emits collection pattern engine code count) = true
is_emits _ = false
