-- The collections that rows close.
use Rattle.std.specs.Prelude.{ℕ, suc, if◌then◌else◌, List, [], ◌∷◌}
use Rattle.census_merge.specs.Kept.{is_closed}
use Rattle.census_rows.specs.declared.row.Row.{Row}

-- those of these collections that the rows close, in their order; the first of the collections has the number c
abbrev pub closed_collections : {A : Type 0} → List Row → ℕ → List A → List A
closed_collections rows c [] = []
closed_collections rows c (f ∷ fs) = if is_closed rows c then f ∷ closed_collections rows (suc c) fs else closed_collections rows (suc c) fs
