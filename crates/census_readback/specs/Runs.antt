-- The rows of one collection, taken one after another.
use Rattle.std.specs.Prelude.{List, [], ◌∷◌, Option, Some, None}
use Rattle.census_rows.specs.declared.row.Row.{Row}
use Rattle.census_readback.specs.declared.place.Place.{Place}
use Rattle.census_readback.specs.Sections.{place_after}

-- the place after these rows of the collection, if they may come here
abbrev pub run : Place → List Row → Option Place
run place [] = Some place
run place (row ∷ rows) = elim (place_after place row) [ None ↦ None | Some after ↦ run after rows ]
