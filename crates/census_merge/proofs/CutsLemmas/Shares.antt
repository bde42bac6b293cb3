-- Groups that are the sections of a bundle: whose rows they are, and how many patterns they open.
use Rattle.std.proofs.Common.{◌≡◌, ℕ, suc, ◌<◌, ◌≤◌, List, [], ◌∷◌, length, slice_get, ap, ◌∙◌, sym, subst}
use Rattle.std.specs.List.{AllByRecursion as Each}
use Rattle.census_format.specs.Lines.{Collection, Group, sayings_count}
use Rattle.census_format.specs.Reports.{Owned, lines_of, section}
use Rattle.census_readback.specs.Shapes.{AreOfCollections, all_rows, patterns_in, rows_of}
use Rattle.census_readback.specs.Steps.{collection_of}
use Rattle.census_rows.specs.declared.row.Row.{Row}
use Rattle.census_merge.specs.Telling.{rows_in}
use Rattle.census_merge.proofs.OpenedPatterns.{patterns-counted}
use Rattle.census_merge.proofs.Grouped.{EachIn, IsIn, each-then, in-groups, in-rows, rows-grouped}
use Rattle.census_merge.proofs.Readable.{opens-at}
use Rattle.census_merge.proofs.CutsLemmas.Groups.{owners-in}
use Rattle.census_merge.proofs.CutsLemmas.Sections.{IsOf, IsWithin, groups-within, sections-within}

-- the row's collection is one of n
abbrev pub IsOfMany : ℕ → Row → Type 0
IsOfMany n row = IsOf n (collection_of row)

of-many : (n c : ℕ) (row : Row) → IsWithin n c row → IsOfMany n row
of-many n c row h = (subst (λ k. 0 < k) (sym h.0) h.1, subst (λ k. k ≤ n) (sym h.0) h.2)

many-of : (n : ℕ) (rows : List Row) → Each (IsOfMany n) rows → AreOfCollections n rows
many-of n [] h = tt
many-of n (row ∷ rows) h = (h.0.0, h.0.1, many-of n rows h.1)

module _ (b : List Collection) (groups : List Owned) (sections : (c : ℕ) → lines_of c groups ≡ section b c) where
  within : EachIn (IsWithin (length b)) groups
  within = in-groups (IsWithin (length b)) groups (λ c. subst (Each (Each (IsWithin (length b) c))) (sym (sections c)) (sections-within b c))

  -- each row is of its group's collection
  pub rows-own : EachIn IsIn groups
  rows-own =
      each-then (λ (l : Owned). Each (IsWithin (length b) l.owner) l.group) (λ (l : Owned). Each (IsIn l.owner) l.group)
      (λ l. each-then (IsWithin (length b) l.owner) (IsIn l.owner) (λ row h. h.0) l.group) groups within

  -- each row's collection is one of the bundle's
  pub rows-within : Each (IsOfMany (length b)) (rows_in groups)
  rows-within = in-rows (IsWithin (length b)) (IsOfMany (length b)) (of-many (length b)) groups within

  pub owners-within : Each (λ (l : Owned). IsOf (length b) l.owner) groups
  owners-within = owners-in (IsOf (length b)) groups (λ c. subst (Each (λ (group : Group). IsOf (length b) c)) (sym (sections c)) (groups-within b c))

  -- the rows of a collection are those of its section
  pub rows-section : (c : ℕ) → rows_of c (rows_in groups) ≡ all_rows (section b c)
  rows-section c = rows-grouped c groups rows-own ∙ ap all_rows (sections c)

  pub patterns-are : patterns_in (rows_in groups) ≡ sayings_count b
  patterns-are =
      patterns-counted (rows_in groups) b (many-of (length b) (rows_in groups) rows-within)
      (λ k. ap patterns_in (rows-section (suc k)) ∙ opens-at (suc k) (slice_get b k))
