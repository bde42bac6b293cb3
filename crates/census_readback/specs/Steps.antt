-- The rows of reports, one after another.
use Rattle.std.specs.Prelude.{◌≡◌, ℕ, ◌+◌, ◌-◌, ◌^◌, Bool, true, false, ◌&&◌, ◌==◌, nat_lt, nat_le, if◌then◌else◌, Option, Some, None as Nothing, List, [], ◌∷◌, ◌++◌, length, replicate, slice_index_or, slice_set}
use Rattle.std.specs.List.{list_all}
use Rattle.census_rows.specs.declared.row.Row.{Row}
use Rattle.census_rows.specs.declared.row.Row.TheVariants.{Open, Line, Part, Engine, Emits, Code, Close, End}
use Rattle.census_readback.specs.declared.place.Place.{Place}
use Rattle.census_readback.specs.declared.place.Place.TheVariants.{Before, Behind}
use Rattle.census_readback.specs.declared.progress.Progress.{Progress}
use Rattle.census_readback.specs.Sections.{place_after}
use Rattle.census_readback.specs.Limits.{count_limit}
use Rattle.census_readback.specs.Told.{Told, told_after}

-- the collection that a row belongs to
abbrev pub collection_of : Row → ℕ
collection_of (Open collection patterns name) = collection
collection_of (Line collection pattern outcome name) = collection
collection_of (Part collection pattern code count) = collection
collection_of (Engine collection pattern number period dx dy count) = collection
collection_of (Emits collection pattern engine code count) = collection
collection_of (Code collection rule code count) = collection
collection_of (Close collection patterns resolved unresolved refused) = collection
collection_of (End collections patterns) = 0

-- how many patterns a row opens
abbrev pub patterns_opened : Row → ℕ
patterns_opened (Open collection patterns name) = patterns
patterns_opened _ = 0

abbrev pub is_behind : Place → Bool
is_behind Behind = true
is_behind _ = false

-- the place of the collection at an index
abbrev pub place_at : List Place → ℕ → Place
place_at places index = slice_index_or places index Before

-- at least `count` places
abbrev pub padded_places : List Place → ℕ → List Place
padded_places places count = places ++ replicate (count - length places) Before

-- with this place for the collection at an index
abbrev pub with_place : List Place → ℕ → Place → List Place
with_place places index place = slice_set (padded_places places (index + 1)) index place

-- a row was taken at the place of the collection at an index
pub record Goes (old : List Place) (index : ℕ) (row : Row) (new : List Place) : Type 0 where
  pub place : Place
  pub goes : place_after (place_at old index) row ≡ Some place
  pub is : new ≡ with_place old index place

-- the places of the collections, how many patterns these have, and whether the last row ended a report
pub record Reading : Type 0 where
  pub places : List Place
  pub patterns : ℕ
  pub ended : Bool

abbrev pub reading_of : Progress → Reading
reading_of progress = record { places = progress.places.items; patterns = progress.patterns; ended = progress.ended }

-- before any row
abbrev pub initial_reading : Reading
initial_reading = record { places = []; patterns = 0; ended = false }

-- after an `end` row: each collection is read to its end, and the numbers of collections and patterns are those of the row
abbrev pub end_step : Reading → ℕ → ℕ → Option Reading
end_step s collections patterns =
    if list_all is_behind s.places && ((length s.places == collections) && (s.patterns == patterns)) then Some (record { places = []; patterns = 0; ended = true }) else Nothing

-- with a place for the collection at an index, and this many more patterns, if 64 bits hold their number
abbrev pub gone_on : Reading → ℕ → ℕ → Option Place → Option Reading
gone_on s index patterns Nothing = Nothing
gone_on s index patterns (Some place) =
    if nat_lt (s.patterns + patterns) (2 ^ 64) then Some (record { places = with_place s.places index place; patterns = s.patterns + patterns; ended = false }) else Nothing

-- after a row of a collection, whose number is 1 to 65,535
abbrev pub section_step : Reading → Row → Option Reading
section_step s row =
    let index = collection_of row - 1 in
    if nat_lt 0 (collection_of row) && nat_le (collection_of row) count_limit then gone_on s index (patterns_opened row) (place_after (place_at s.places index) row) else Nothing

-- after a row, if it may come here
abbrev pub step : Reading → Row → Option Reading
step s (End collections patterns) = end_step s collections patterns
step s row = section_step s row

-- The number, from this one on, of the first row that may not come where it does, or says what no report says there. If there
-- is none, and the last row is no `end` row, it is that of the missing row.
abbrev pub first_stray : Told → Reading → ℕ → List Row → Option ℕ
first_stray told s number [] = if s.ended then Nothing else Some number
first_stray told s number (row ∷ rows) =
    elim (told_after told row) [
      | Nothing ↦ Some number
      | Some more ↦ elim (step s row) [ Nothing ↦ Some number | Some t ↦ first_stray more t (number + 1) rows ]
    ]
