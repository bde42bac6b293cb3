-- One report of several.
use Rattle.std.specs.Prelude.{ℕ, ◌+◌, ◌≤◌, ⊤, Some, None as Nothing, List, [], ◌∷◌, ◌++◌}
use Rattle.census_rows.specs.declared.row.Row.{Row}
use Rattle.census_rows.specs.declared.row.Row.TheVariants.{End}
use Rattle.census_readback.specs.Limits.{count_limit}
use Rattle.census_readback.specs.Steps.{collection_of}
use Rattle.census_merge.specs.Kept.{numbered}
use Rattle.census_merge.specs.Sums.{no_sums, sums_in, sums_of}

-- each row's number is at most 65,535
abbrev pub AreFew : List Row → Type 0
AreFew [] = ⊤
AreFew (row ∷ rows) = (collection_of row ≤ count_limit) × AreFew rows

-- a row, where `before` collections come before those of its report
abbrev pub renumbered_row : ℕ → Row → Row
renumbered_row before row = numbered (before + collection_of row) row

-- the rows of several reports without `end` rows, numbered on, where `before` collections come before them
abbrev pub numbered_on : ℕ → List Row → List Row
numbered_on before [] = []
numbered_on before (row ∷ rows) =
    elim (sums_of row) [ Nothing ↦ renumbered_row before row ∷ numbered_on before rows | Some more ↦ numbered_on (before + more.collections) rows ]

-- the rows of one report that has all their collections
abbrev pub merged_rows : List Row → List Row
merged_rows rows = numbered_on 0 rows ++ End (sums_in no_sums rows).collections (sums_in no_sums rows).patterns ∷ []
