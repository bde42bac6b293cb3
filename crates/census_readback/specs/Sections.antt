-- The rows of a collection, one after another.
use Rattle.std.specs.Prelude.{ℕ, ◌+◌, ◌-◌, ◌^◌, min, Bool, false, true, ◌&&◌, ◌==◌, nat_lt, nat_le, if◌then◌else◌, List, length, slice_get, Option, Some, None as Nothing}
use Rattle.census_rows.specs.declared.kinds.Behind as rows
use Rattle.census_rows.specs.declared.kinds.Behind.TheVariants as behind
use Rattle.census_rows.specs.declared.kinds.Class.{Class}
use Rattle.census_rows.specs.declared.kinds.Class.TheVariants.{Resolved, Unresolved, Refused}
use Rattle.census_rows.specs.declared.row.Outcome.{Outcome}
use Rattle.census_rows.specs.declared.row.Row.{Row}
use Rattle.census_rows.specs.declared.row.Row.TheVariants.{Open, Line, Part, Engine, Emits, Code, Close}
use Rattle.census_rows.specs.Kinds.{said}
use Rattle.census_readback.specs.declared.place.Place.{Place}
use Rattle.census_readback.specs.declared.place.Place.TheVariants.{Before, Within, Behind}
use Rattle.census_readback.specs.declared.place.Tally.{Tally}
use Rattle.census_readback.specs.Counts.{is_counted, line_counted, nothing_counted, object, part_counted}
use Rattle.census_readback.specs.Limits.{count_limit}

-- one more, as far as 16 bits go
abbrev pub next_count : ℕ → ℕ
next_count n = min (n + 1) (2 ^ 16 - 1)

-- with one more pattern that counts so
abbrev pub counted : Tally → Class → Tally
counted t Resolved = record t { resolved = next_count t.resolved }
counted t Unresolved = record t { unresolved = next_count t.unresolved }
counted t Refused = record t { refused = next_count t.refused }

abbrev pub same_behind : rows.Behind → rows.Behind → Bool
same_behind behind.Nothing behind.Nothing = true
same_behind behind.Parts behind.Parts = true
same_behind behind.Engines behind.Engines = true
same_behind _ _ = false

-- with the line of one more pattern
abbrev pub with_line : Tally → Outcome → Tally
with_line t outcome = record (counted t (said outcome).class) { read = t.read + 1; behind = (said outcome).behind; counts = line_counted t.counts (said outcome) }

-- with `count` objects of the last pattern
abbrev pub with_part : Tally → List ℕ → ℕ → Tally
with_part t code count = record t { counts = part_counted t.counts code count }

-- with one more `code` line
abbrev pub with_told : Tally → Tally
with_told t = record t { behind = behind.Nothing; told = t.told + 1 }

-- the next of the objects that were counted is this one, and there are `count` of it
abbrev pub tells_next : Tally → List ℕ → List ℕ → ℕ → Bool
tells_next t rule code count = is_counted (slice_get t.counts.sums t.told) (object rule code) count

-- the numbers of a `close` line: of all patterns, of `ok`, `ash` and `grows`, of `none` and `large`, and of `bad`
pub record ClosingNumbers : Type 0 where
  pub patterns : ℕ
  pub resolved : ℕ
  pub unresolved : ℕ
  pub refused : ℕ

-- all patterns are read, these are their numbers, and each object that was counted is reported
abbrev pub closes : Tally → ClosingNumbers → Bool
closes t n =
    (t.read == t.patterns) && ((n.patterns == t.patterns) && ((n.resolved == t.resolved) && ((n.unresolved == t.unresolved) && ((n.refused == t.refused) && (t.told == length t.counts.sums)))))

-- rows of this kind may come after the line of the last pattern
abbrev pub may_stand : Tally → rows.Behind → ℕ → Bool
may_stand t kind pattern = same_behind t.behind kind && (pattern == t.read)

-- between `open` and `close`: the lines of the patterns in order, each with the lines that come after it, then the `code` lines
-- of what these count
abbrev pub next_within : Tally → Row → Option Place
next_within t (Line collection pattern outcome name) =
    if nat_lt t.read t.patterns && (pattern == t.read + 1) then Some (Within (with_line t outcome)) else Nothing
next_within t (Part collection pattern code count) =
    if may_stand t behind.Parts pattern then Some (Within (with_part t code.now count)) else Nothing
next_within t (Engine collection pattern number period dx dy count) = if may_stand t behind.Engines pattern then Some (Within t) else Nothing
next_within t (Emits collection pattern engine code count) = if may_stand t behind.Engines pattern then Some (Within t) else Nothing
next_within t (Code collection rule code count) =
    if (t.read == t.patterns) && tells_next t rule.now code.now count then Some (Within (with_told t)) else Nothing
next_within t (Close collection patterns resolved unresolved refused) =
    if closes t (record { patterns = patterns; resolved = resolved; unresolved = unresolved; refused = refused }) then Some Behind else Nothing
next_within t _ = Nothing

-- the first row is `open`
abbrev pub first_place : Row → Option Place
first_place (Open collection patterns name) =
    if nat_le patterns count_limit then Some (Within (record { patterns = patterns; read = 0; resolved = 0; unresolved = 0; refused = 0; behind = behind.Nothing; counts = nothing_counted; told = 0 })) else Nothing
first_place _ = Nothing

-- the place after a row of the collection, if it may come here; nothing comes after `close`
abbrev pub place_after : Place → Row → Option Place
place_after Before row = first_place row
place_after (Within tally) row = next_within tally row
place_after Behind row = Nothing
