-- The engines or parts that the rows after a `line` row report.
use Rattle.std.specs.Prelude.{ℕ, ℤ, Option, Some, None, List, [], ◌∷◌}
use Rattle.std.specs.List.{cons_option, filter_map, take_while}
use Rattle.census_rows.specs.declared.row.Row.{Row}
use Rattle.census_rows.specs.declared.row.Row.TheVariants.{Part, Engine, Emits}
use Rattle.census_readback.specs.Following.{is_emits}
use Rattle.census_table.specs.declared.lists.Portion.{Portion}

-- the code of a row and its number of objects
abbrev pub portion_of : Row → Option Portion
portion_of (Part collection pattern code count) = Some (record { code = code; count = count })
portion_of (Emits collection pattern engine code count) = Some (record { code = code; count = count })
portion_of _ = None

-- equal engines: their number, how far to the right and down each moves in a period, and what it emits in one
pub record Engines : Type 0 where
  pub count : ℕ
  pub dx : ℤ
  pub dy : ℤ
  pub emits : List Portion
  pub period : ℕ

-- the engines that a row reports, where these rows report what each emits
abbrev pub engines_of : Row → List Row → Option Engines
engines_of (Engine collection pattern number period dx dy count) rows =
    Some (record { count = count; dx = dx; dy = dy; emits = filter_map portion_of rows; period = period })
engines_of _ rows = None

-- the engines of these rows; the row of each is followed by those that report what it emits
abbrev pub all_engines : List Row → List Engines
all_engines [] = []
all_engines (row ∷ rows) = cons_option (engines_of row (take_while is_emits rows)) (all_engines rows)
