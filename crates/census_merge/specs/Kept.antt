-- What is kept of the rows of reports the last of which was cut.
use Rattle.std.specs.Prelude.{ℕ, zero, suc, ◌+◌, Bool, true, false, ◌||◌, ◌==◌, nat_lt, if◌then◌else◌, List, [], ◌∷◌, ◌++◌, take, drop}
use Rattle.census_rows.specs.declared.row.Row.{Row}
use Rattle.census_rows.specs.declared.row.Row.TheVariants.{Open, Line, Part, Engine, Emits, Code, Close, End}
use Rattle.census_readback.specs.Limits.{count_limit}
use Rattle.census_readback.specs.Shapes.{patterns_in}
use Rattle.census_readback.specs.Steps.{collection_of}

-- a row ends a report
abbrev pub is_end : Row → Bool
is_end (End collections patterns) = true
is_end _ = false

-- how many rows there are up to the last that ends a report
abbrev pub whole_count : List Row → ℕ
whole_count [] = 0
whole_count (row ∷ rows) = if nat_lt 0 (whole_count rows) then whole_count rows + 1 else (if is_end row then 1 else 0)

-- a row closes a collection
abbrev pub is_close : Row → Bool
is_close (Close collection patterns resolved unresolved refused) = true
is_close _ = false

-- a row opens a collection
abbrev pub is_open : Row → Bool
is_open (Open collection patterns name) = true
is_open _ = false

-- a row closes the collection of this number
abbrev pub closes : ℕ → Row → Bool
closes c (Close collection patterns resolved unresolved refused) = collection == c
closes c _ = false

-- one of the rows closes the collection of this number
abbrev pub is_closed : List Row → ℕ → Bool
is_closed [] c = false
is_closed (row ∷ rows) c = closes c row || is_closed rows c

-- the most collections of a report, as a number that is not computed
unfoldable pub most : ℕ
most = count_limit

-- how many collections up to this number are closed
abbrev pub closed_to : List Row → ℕ → ℕ
closed_to rows zero = 0
closed_to rows (suc c) = closed_to rows c + (if is_closed rows (suc c) then 1 else 0)

-- a row with this number for its collection
abbrev pub numbered : ℕ → Row → Row
numbered c (Open collection patterns name) = Open c patterns name
numbered c (Line collection pattern outcome name) = Line c pattern outcome name
numbered c (Part collection pattern code count) = Part c pattern code count
numbered c (Engine collection pattern number period dx dy count) = Engine c pattern number period dx dy count
numbered c (Emits collection pattern engine code count) = Emits c pattern engine code count
numbered c (Code collection rule code count) = Code c rule code count
numbered c (Close collection patterns resolved unresolved refused) = Close c patterns resolved unresolved refused
numbered c (End collections patterns) = End collections patterns

-- Those of the second rows whose collections the first close, numbered from 1 on in the order of their numbers.
abbrev pub kept_of : List Row → List Row → List Row
kept_of all [] = []
kept_of all (row ∷ rows) =
    if is_closed all (collection_of row) then numbered (closed_to all (collection_of row)) row ∷ kept_of all rows else kept_of all rows

-- the report of the collections that the rows of one report close
abbrev pub report_of : List Row → List Row
report_of rows = kept_of rows rows ++ End (closed_to rows most) (patterns_in (kept_of rows rows)) ∷ []

-- whole reports stay, and so do the closed collections of the report after them
abbrev pub kept_rows : List Row → List Row
kept_rows rows = take (whole_count rows) rows ++ report_of (drop (whole_count rows) rows)
