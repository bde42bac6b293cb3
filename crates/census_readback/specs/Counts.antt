-- What the rows of a collection count: its objects, each once, in the order of first appearance.
use Rattle.std.specs.Prelude.{ℕ, ◌+◌, ◌^◌, Bool, false, ◌&&◌, ◌==◌, nat_eq, nat_lt, if◌then◌else◌, Option, Some, None as Nothing, List, [], ◌∷◌}
use Rattle.std.specs.Cmp.Lexicographic.{pointwise}
use Rattle.std.specs.Option.{option_map_or, unwrap_or}
use Rattle.census_rows.specs.Kinds.{Said, said, value_at}
use Rattle.census_rows.specs.declared.kinds.Label.TheVariants as label
use Rattle.census_rows.specs.declared.row.Row.{Row}
use Rattle.census_rows.specs.declared.row.Row.TheVariants.{Line, Part, Code}
use Rattle.census_readback.specs.Lawful.{text_in}

-- a rule, and the code of an object under it, as they are printed
pub record Object : Type 0 where
  pub rule : List ℕ
  pub code : List ℕ

abbrev pub object : List ℕ → List ℕ → Object
object rule code = record { rule = rule; code = code }

-- the same rule and the same code, byte by byte
abbrev pub same_object : Object → Object → Bool
same_object k l = pointwise nat_eq k.rule l.rule && pointwise nat_eq k.code l.code

-- how many there are, if 64 bits hold the number
abbrev pub Sum : Type 0
Sum = Option ℕ

-- with n more
abbrev pub sum_with : Sum → ℕ → Sum
sum_with Nothing n = Nothing
sum_with (Some m) n = if nat_lt (m + n) (2 ^ 64) then Some (m + n) else Nothing

-- with n more of an object, which is put last if it did not appear before
abbrev pub with_more : Object → ℕ → List (Object × Sum) → List (Object × Sum)
with_more k n [] = (k, sum_with (Some 0) n) ∷ []
with_more k n (e ∷ es) = if same_object k e.0 then (e.0, sum_with e.1 n) ∷ es else e ∷ with_more k n es

-- the rule of the last `line` row, and the objects that were counted
pub record Counts : Type 0 where
  pub rule : List ℕ
  pub sums : List (Object × Sum)

-- before any row
abbrev pub nothing_counted : Counts
nothing_counted = record { rule = []; sums = [] }

-- after a `line` row, whose code, if it has one, counts once
abbrev pub line_counted : Counts → Said → Counts
line_counted k what =
    let rule = unwrap_or (text_in (value_at label.Rule what.fields)) [] in
    record { rule = rule; sums = option_map_or (λ code. with_more (object rule code) 1 k.sums) (text_in (value_at label.Code what.fields)) k.sums }

-- after a `part` row, which counts n objects under the rule of the line before it
abbrev pub part_counted : Counts → List ℕ → ℕ → Counts
part_counted k code n = record { rule = k.rule; sums = with_more (object k.rule code) n k.sums }

-- after these `line` and `part` rows
abbrev pub counted_by : Counts → List Row → Counts
counted_by k [] = k
counted_by k (Line collection pattern outcome name ∷ rows) = counted_by (line_counted k (said outcome)) rows
counted_by k (Part collection pattern code count ∷ rows) = counted_by (part_counted k code.now count) rows
counted_by k (row ∷ rows) = counted_by k rows

-- what `code` rows say
abbrev pub counts_told : List Row → List (Object × Sum)
counts_told [] = []
counts_told (Code collection rule code count ∷ rows) = (object rule.now code.now, Some count) ∷ counts_told rows
counts_told (row ∷ rows) = counts_told rows

-- an object that was counted is this one, and there are n of it
abbrev pub is_counted : Option (Object × Sum) → Object → ℕ → Bool
is_counted Nothing k n = false
is_counted (Some e) k n = same_object e.0 k && option_map_or (λ m. m == n) e.1 false
