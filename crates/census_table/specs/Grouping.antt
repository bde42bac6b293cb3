-- Objects in the order of their kinds, counted kind by kind.
use Rattle.std.specs.Prelude.{◌≡◌, ℕ, ◌+◌, false, if◌then◌else◌, List, [], ◌∷◌, ⊤}
use Rattle.std.specs.List.{All}
use Rattle.std.specs.Ordering.{is_gt}
use Rattle.census_table.specs.Kinds.{capped, kind_cmp, same_kind, same_pattern}
use Rattle.census_table.specs.declared.object.Object.{Object}

-- no object follows one of a later kind
abbrev pub AreInKinds : List Object → Type 0
AreInKinds [] = ⊤
AreInKinds (o ∷ objects) = All (λ p. is_gt (kind_cmp o p) ≡ false) objects × AreInKinds objects

-- the number of patterns that an object adds to its kind; it comes before the objects already counted
abbrev pub step_of : Object → Object → ℕ
step_of o kind = if same_pattern o.first kind.first then 0 else 1

-- an object with `count` others of its kind after it; together they occur in `patterns` patterns
abbrev pub before : Object → ℕ → ℕ → Object
before o count patterns = record o { count = capped (o.count + count); patterns = patterns }

abbrev pub alone : Object → Object
alone o = before o 0 1

abbrev pub joined : Object → Object → Object
joined o kind = before o kind.count (capped (step_of o kind + kind.patterns))

-- the kinds with one more object, which comes before the objects already counted
abbrev pub with_told : Object → List Object → List Object
with_told o [] = alone o ∷ []
with_told o (kind ∷ kinds) = if same_kind o kind then joined o kind ∷ kinds else alone o ∷ (kind ∷ kinds)

abbrev pub grouped : List Object → List Object
grouped [] = []
grouped (o ∷ objects) = with_told o (grouped objects)
