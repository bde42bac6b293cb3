-- Lists of one value for each collection, by its number less 1.
use Rattle.std.specs.Prelude.{◌≡◌, ℕ, ◌+◌, ◌-◌, ◌<◌, ◌^◌, Bool, true, false, ◌&&◌, nat_le, nat_lt, if◌then◌else◌, Option, Some, None as Nothing, List, drop, length, slice_index_or, slice_set}
use Rattle.census_rows.specs.declared.row.Row.{Row}
use Rattle.census_rows.specs.declared.row.Row.TheVariants.{Close}
use Rattle.census_readback.specs.Limits.{count_limit}
use Rattle.census_readback.specs.Shapes.{AreOfCollections, patterns_in}
use Rattle.census_readback.specs.Steps.{collection_of}
use Rattle.census_merge.specs.Kept.{closed_to, is_closed, kept_of, numbered, whole_count}

-- the collection that a row closes, less 1, if a report may have it
abbrev pub closed_index : Row → Option ℕ
closed_index (Close collection patterns resolved unresolved refused) =
    if nat_lt 0 collection && nat_le collection count_limit then Some (collection - 1) else Nothing
closed_index _ = Nothing

-- with the flag of a collection set, if there is one
abbrev pub marked : Option ℕ → List Bool → List Bool
marked Nothing flags = flags
marked (Some index) flags = slice_set flags index true

-- each flag says whether its collection is closed
pub record AreFlags (rows : List Row) (flags : List Bool) : Type 0 where
  pub size : length flags ≡ count_limit
  pub each : (i : ℕ) → i < count_limit → slice_index_or flags i false ≡ is_closed rows (i + 1)

-- the collection's number among those that are closed, or 0 if it is not closed
abbrev pub number_in : List Row → ℕ → ℕ
number_in rows c = if is_closed rows c then closed_to rows c else 0

pub record AreNumbers (rows : List Row) (numbers : List ℕ) : Type 0 where
  pub size : length numbers ≡ count_limit
  pub each : (i : ℕ) → i < count_limit → slice_index_or numbers i 0 ≡ number_in rows (i + 1)

-- a row under the number of its collection, if that has one
abbrev pub kept_by : ℕ → Row → Option Row
kept_by number row = if nat_lt 0 number then Some (numbered number row) else Nothing

abbrev pub kept_as : List ℕ → Row → Option Row
kept_as numbers row = kept_by (slice_index_or numbers (collection_of row - 1) 0) row

-- the rows after the whole reports have numbers of collections, and the number of patterns of the collections that are kept
-- fits 64 bits
pub record CanBeKept (rows : List Row) : Type 0 where
  pub owned : AreOfCollections count_limit (drop (whole_count rows) rows)
  pub fits : patterns_in (kept_of (drop (whole_count rows) rows) (drop (whole_count rows) rows)) < 2 ^ 64
