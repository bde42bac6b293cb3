-- The shape of a report.
use Rattle.std.specs.Prelude.{ℕ, ◌+◌, ◌<◌, ◌≤◌, ◌^◌, ◌≡◌, ◌==◌, if◌then◌else◌, Bool, true, false, Some, List, [], ◌∷◌, ◌++◌, length, ⊤}
use Rattle.census_rows.specs.declared.kinds.Behind.{Behind}
use Rattle.census_rows.specs.declared.kinds.Behind.TheVariants as behind
use Rattle.census_rows.specs.declared.row.Outcome.{Outcome}
use Rattle.census_rows.specs.declared.row.Row.{Row}
use Rattle.census_rows.specs.declared.row.Row.TheVariants.{Open, Line, Part, Engine, Emits, Code, Close, End}
use Rattle.census_rows.specs.Kinds.{is_refused, is_resolved, is_unresolved, said}
use Rattle.census_readback.specs.Sections.{same_behind}
use Rattle.census_readback.specs.Steps.{collection_of, patterns_opened}
use Rattle.census_readback.specs.Counts.{counted_by, counts_told, nothing_counted}
use Rattle.census_readback.specs.Limits.{count_limit}
use Rattle.census_readback.specs.Told.{nothing_told, told_by}

-- the row is a `line` line of this kind
abbrev pub is_line : (Outcome → Bool) → Row → Bool
is_line kind (Line collection pattern outcome name) = kind outcome
is_line kind _ = false

-- how many `line` lines of this kind there are
abbrev pub lines_that : (Outcome → Bool) → List Row → ℕ
lines_that kind [] = 0
lines_that kind (row ∷ rows) = (if is_line kind row then 1 else 0) + lines_that kind rows

abbrev pub any_outcome : Outcome → Bool
any_outcome outcome = true

-- The `line` lines of the patterns after this one, in order, each with the lines that come after it. Lines of one kind may come
-- after this pattern's line too.
abbrev pub AreLines : ℕ → Behind → List Row → Type 0
AreLines last kind [] = ⊤
AreLines last kind (Line collection pattern outcome name ∷ rows) = (pattern ≡ last + 1) × AreLines (last + 1) (said outcome).behind rows
AreLines last kind (Part collection pattern code count ∷ rows) = (same_behind kind behind.Parts ≡ true) × (pattern ≡ last) × AreLines last kind rows
AreLines last kind (Engine collection pattern number period dx dy count ∷ rows) =
    (same_behind kind behind.Engines ≡ true) × (pattern ≡ last) × AreLines last kind rows
AreLines last kind (Emits collection pattern engine code count ∷ rows) =
    (same_behind kind behind.Engines ≡ true) × (pattern ≡ last) × AreLines last kind rows
AreLines last kind _ = ⊥

abbrev pub IsOpenRow : Row → Type 0
IsOpenRow (Open collection patterns name) = ⊤
IsOpenRow _ = ⊥

abbrev pub AreCodes : List Row → Type 0
AreCodes [] = ⊤
AreCodes (Code collection rule code count ∷ rows) = AreCodes rows
AreCodes _ = ⊥

-- The rows of a collection: `open`, the lines of its patterns, the `code` lines of the objects that these count, and
-- `close`, which has the numbers of all lines, of `ok`, `ash` and `grows`, of `none` and `large`, and of `bad` lines.
pub record IsSection (rows : List Row) : Type 0 where
  pub first : Row
  pub lines : List Row
  pub codes : List Row
  pub collection : ℕ
  pub whole : rows ≡ first ∷ (lines ++ (codes ++ Close collection (lines_that any_outcome lines) (lines_that is_resolved lines) (lines_that is_unresolved lines) (lines_that is_refused lines) ∷ []))
  pub opens : IsOpenRow first
  pub all : patterns_opened first ≡ lines_that any_outcome lines
  pub ordered : AreLines 0 behind.Nothing lines
  pub counts : AreCodes codes
  pub tallied : counts_told codes ≡ (counted_by nothing_counted lines).sums
  pub few : lines_that any_outcome lines ≤ count_limit

-- the rows of this collection, in their order
abbrev pub rows_of : ℕ → List Row → List Row
rows_of collection [] = []
rows_of collection (row ∷ rows) = if collection_of row == collection then row ∷ rows_of collection rows else rows_of collection rows

-- each row is of a collection, from 1 to this one
abbrev pub AreOfCollections : ℕ → List Row → Type 0
AreOfCollections collections [] = ⊤
AreOfCollections collections (row ∷ rows) = (0 < collection_of row) × (collection_of row ≤ collections) × AreOfCollections collections rows

-- how many patterns the collections have
abbrev pub patterns_in : List Row → ℕ
patterns_in [] = 0
patterns_in (row ∷ rows) = patterns_opened row + patterns_in rows

-- The rows of a report: those of its collections' sections, interleaved in any way that keeps each section's order, and then
-- `end`. Each is lawful by itself, and the rows after a line report all its objects or engines.
pub record IsWholeReport (rows : List Row) : Type 0 where
  pub body : List Row
  pub collections : ℕ
  pub whole : rows ≡ body ++ End collections (patterns_in body) ∷ []
  pub owned : AreOfCollections collections body
  pub sections : (c : ℕ) → 0 < c → c ≤ collections → IsSection (rows_of c body)
  pub few : collections ≤ count_limit
  pub fits : patterns_in body < 2 ^ 64
  pub tells : told_by nothing_told rows ≡ Some nothing_told

abbrev pub AreWhole : List (List Row) → Type 0
AreWhole [] = ⊤
AreWhole (rows ∷ others) = IsWholeReport rows × AreWhole others

abbrev pub all_rows : List (List Row) → List Row
all_rows [] = []
all_rows (rows ∷ others) = rows ++ all_rows others

-- the rows of one report, or of several, one after another
pub record AreReports (rows : List Row) : Type 0 where
  pub reports : List (List Row)
  pub some : 0 < length reports
  pub whole : rows ≡ all_rows reports
  pub each : AreWhole reports
