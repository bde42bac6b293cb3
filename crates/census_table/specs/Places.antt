-- Objects by their places in reports.
use Rattle.std.specs.Prelude.{◌≡◌, ℕ, ◌+◌, Option, Some, None, List, [], ◌∷◌, ⊤, slice_index_or}
use Rattle.std.specs.Borrow.{Bor}
use Rattle.std.specs.List.{AllByRecursion}
use Rattle.std.specs.Option.{unwrap_or}
use Rattle.std.specs.Ordering.{nat_cmp, ordering_then}
use Rattle.std.specs.declared.cmp.Ordering.{Ordering}
use Rattle.std.specs.declared.cmp.Ordering.TheVariants.{Less}
use Rattle.census_rows.specs.declared.row.Row.{Row}
use Rattle.census_rows.specs.declared.row.Row.TheVariants.{End, Line, Part}
use Rattle.census_rows.specs.declared.kinds.Label.TheVariants as label
use Rattle.census_rows.specs.Kinds.{said, value_at}
use Rattle.census_table.specs.Entries.{entry_of_row}
use Rattle.census_table.specs.Objects.{object_of_row, text_in}
use Rattle.census_table.specs.declared.counting.Kind.{Kind}
use Rattle.census_table.specs.declared.entry.Entry.{Entry}
use Rattle.census_table.specs.declared.object.Object.{Object}
use Rattle.census_table.specs.declared.place.Place.{Place}

-- the row at an index; after the last one there are `end` rows
abbrev pub row_in : List Row → ℕ → Row
row_in rows index = slice_index_or rows index (End 0 0)

-- the pattern of the line at an index, in a collection that has this number
abbrev pub entry_at : ℕ → List Row → ℕ → Option Entry
entry_at number rows index = entry_of_row number (row_in rows 0) (row_in rows index)

-- the object that the row at index `row` reports for the pattern of the line at index `line`
abbrev pub told_in : ℕ → List Row → ℕ → ℕ → Option Object
told_in number rows line row = object_of_row (entry_at number rows line) (row_in rows row)

-- the object that is reported at a place of collections that are numbered from 1
abbrev pub told_at : List (List Row) → Place → Option Object
told_at sections place = told_in (place.collection + 1) (slice_index_or sections place.collection []) place.under place.row

-- the code in a row
abbrev pub code_in : Row → Option (Bor (List ℕ))
code_in (Line collection pattern outcome name) = text_in (value_at label.Code (said outcome).fields)
code_in (Part collection pattern code count) = Some code
code_in _ = None

-- the rule of a line
abbrev pub rule_in : Row → Option (Bor (List ℕ))
rule_in (Line collection pattern outcome name) = text_in (value_at label.Rule (said outcome).fields)
rule_in _ = None

-- an object with this code and this rule, as far as they are there
abbrev pub with_key : Object → Option (Bor (List ℕ)) → Option (Bor (List ℕ)) → Object
with_key o rule code = record o { rule = unwrap_or rule o.rule; code = unwrap_or code o.code }

-- the code that a row reports, and the rule of its line
abbrev pub key_at : Object → List (List Row) → Place → Object
key_at nothing sections place =
    let rows = slice_index_or sections place.collection [] in
    with_key nothing (rule_in (row_in rows place.under)) (code_in (row_in rows place.row))

-- the object that is reported at a place; if there is none, `nothing` with the code and the rule that are there
abbrev pub object_at : Object → List (List Row) → Place → Object
object_at nothing sections place = unwrap_or (told_at sections place) (key_at nothing sections place)

-- an object with these counts
abbrev pub with_counts : Object → ℕ → ℕ → Object
with_counts o count patterns = record o { count = count; patterns = patterns }

-- the first object of a kind, with the kind's counts
abbrev pub kind_at : Object → List Object → Kind → Object
kind_at nothing objects kind = with_counts (slice_index_or objects kind.first nothing) kind.count kind.patterns

-- true where each is in this relation to all after it
abbrev pub Rises : {X : Type 0} → (X → X → Type 0) → List X → Type 0
Rises R [] = ⊤
Rises R (x ∷ xs) = AllByRecursion (R x) xs × Rises R xs

-- the order of places: by collections, and then by rows
abbrev pub place_cmp : Place → Place → Ordering
place_cmp p q = ordering_then (nat_cmp p.collection q.collection) (nat_cmp p.row q.row)

-- each place is before all after it
abbrev pub AreRising : List Place → Type 0
AreRising places = Rises (λ p q. place_cmp p q ≡ Less) places

-- such places, all of which are before this row of a collection
abbrev pub AreBefore : ℕ → ℕ → List Place → Type 0
AreBefore collection row places =
    AreRising places × AllByRecursion (λ p. place_cmp p (record { collection = collection; under = 0; row = row }) ≡ Less) places
