-- The patterns of reports that are objects.
use Rattle.std.specs.Prelude.{ℕ, Option, Some, None as Nothing, List, [], ◌∷◌}
use Rattle.std.specs.Borrow.{Bor}
use Rattle.std.specs.List.{cons_option, flat_map}
use Rattle.census_rows.specs.declared.kinds.Label.TheVariants as label
use Rattle.census_rows.specs.declared.kinds.Value.{Value}
use Rattle.census_rows.specs.declared.kinds.Value.TheVariants.{Text}
use Rattle.census_rows.specs.declared.row.Outcome.{Outcome}
use Rattle.census_rows.specs.declared.row.Outcome.TheVariants.{Found, Bad}
use Rattle.census_rows.specs.declared.row.Row.{Row}
use Rattle.census_rows.specs.declared.row.Row.TheVariants.{Open, Line}
use Rattle.census_rows.specs.Kinds.{said_of, value_at}
use Rattle.census_readback.specs.Grouped.{collections_of}
use Rattle.census_compare.specs.declared.told.Told.{Told}

-- the name of the collection that was opened last, after a row
abbrev pub collection_after : Option (Bor (List ℕ)) → Row → Option (Bor (List ℕ))
collection_after collection (Open number patterns name) = Some name
collection_after collection _ = collection

abbrev pub told_with : Bor (List ℕ) → Bor (List ℕ) → Bor (List ℕ) → Option Value → Option Told
told_with collection rule name (Some (Text code)) = Some (record { rule = rule; code = code; collection = collection; name = name })
told_with collection rule name _ = Nothing

-- the pattern with this name in a collection, if its outcome has a code
abbrev pub told_in : Bor (List ℕ) → Outcome → Bor (List ℕ) → Option Told
told_in collection (Found rule population finding) name = told_with collection rule name (value_at label.Code (said_of finding).fields)
told_in collection (Bad fault) name = Nothing

-- the pattern of a `line` row, if it is in a collection and has a code
abbrev pub told_by : Option (Bor (List ℕ)) → Row → Option Told
told_by (Some collection) (Line number pattern outcome name) = told_in collection outcome name
told_by _ _ = Nothing

-- the patterns of these rows that have codes, in the order of the rows, where this is the collection that was opened last
abbrev pub told_from : Option (Bor (List ℕ)) → List Row → List Told
told_from collection [] = []
told_from collection (row ∷ rows) =
    cons_option (told_by (collection_after collection row) row) (told_from (collection_after collection row) rows)

-- The patterns of reports that have codes: collection by collection, each in the order of its rows.
abbrev pub tolds_of : List Row → List Told
tolds_of rows = flat_map (told_from Nothing) (collections_of [] rows)
