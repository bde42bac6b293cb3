-- What is said before patterns are compared.
use Rattle.std.specs.Prelude.{ℕ, Bool, true, false, ◌||◌, is_some, if◌then◌else◌, List, [], ◌∷◌, ◌++◌, codes, decimal, nat_eq}
use Rattle.std.specs.List.{list_any}
use Rattle.census_faults.specs.Printed.{printable_text}
use Rattle.census_rows.specs.Kinds.{said, value_at}
use Rattle.census_rows.specs.declared.kinds.Label.TheVariants as label
use Rattle.census_rows.specs.declared.row.Outcome.{Outcome}
use Rattle.census_rows.specs.declared.row.Row.{Row}
use Rattle.census_readback.specs.Shapes.{any_outcome, lines_that}
use Rattle.census_compare.specs.Columns.{Title, is_listed}

-- a title, after a comma and a blank if it comes later than another
abbrev pub title_text : Bool → Title → List ℕ
title_text later title = (if later then codes ", " else []) ++ printable_text title.text

-- the title of a column that is compared, or of one that is passed over
abbrev pub listed_text : Bool → Bool → Title → List ℕ
listed_text compared later title = if is_listed compared title.column then title_text later title else []

-- the titles of all of them
abbrev pub listed : Bool → Bool → List Title → List ℕ
listed compared later [] = []
listed compared later (title ∷ titles) = listed_text compared later title ++ listed compared (later || is_listed compared title.column) titles

-- what stands before the columns that are passed over, where there are any
abbrev pub between : List Title → List ℕ
between titles = if list_any (λ title. is_listed false title.column) titles then codes "; passed over: " else []

-- the columns that are compared, and those that are passed over
abbrev pub compared_line : List Title → List ℕ
compared_line titles = codes "census: compared: " ++ listed true false titles ++ between titles ++ listed false false titles ++ codes "\n"

abbrev pub has_code : Outcome → Bool
has_code outcome = is_some (value_at label.Code (said outcome).fields)

-- how many patterns have codes, which are compared, where others have none
abbrev pub counted_line : ℕ → ℕ → List ℕ
counted_line compared all =
    if nat_eq compared all then [] else codes "census: " ++ decimal compared ++ codes " of " ++ decimal all ++ codes " patterns compared\n"

abbrev pub counted_note : List Row → List ℕ
counted_note rows = counted_line (lines_that has_code rows) (lines_that any_outcome rows)
