-- Rows by their numbers.
use Rattle.std.proofs.Common.{◌≡◌, ℕ, zero, suc, ◌<◌, List, [], ◌∷◌, ap, ◌∙◌, sym, arith, length, get_or, take, drop}
use Rattle.std.proofs.lemmas.List.{length-map, get_or-map, get_or_default}
use Rattle.census_rows.specs.declared.row.Row.{Row}
use Rattle.census_rows.specs.declared.row.Row.TheVariants.{End}
use Rattle.census_rows.specs.Store.Placed.{AreWithin, row_numbered, rows_numbered}

pub within-take : (rows : List Row) (numbers : List ℕ) (count : ℕ) → AreWithin rows numbers → AreWithin rows (take count numbers)
within-take rows numbers zero are = tt
within-take rows [] (suc count) are = tt
within-take rows (number ∷ numbers) (suc count) are = (are.0, within-take rows numbers count are.1)

pub within-drop : (rows : List Row) (numbers : List ℕ) (count : ℕ) → AreWithin rows numbers → AreWithin rows (drop count numbers)
within-drop rows numbers zero are = are
within-drop rows [] (suc count) are = tt
within-drop rows (number ∷ numbers) (suc count) are = within-drop rows numbers count are.1

pub within-at : (rows : List Row) (numbers : List ℕ) (index : ℕ) → AreWithin rows numbers → index < length numbers → get_or numbers index 0 < length rows
within-at rows [] index are less = absurd (omega arith)
within-at rows (number ∷ numbers) zero are less = are.0
within-at rows (number ∷ numbers) (suc index) are less = within-at rows numbers index are.1 (omega arith)

pub count-is : (rows : List Row) (numbers : List ℕ) (lent : List Row) → rows_numbered rows numbers ≡ lent → length numbers ≡ length lent
count-is rows numbers lent e = sym (length-map numbers (row_numbered rows)) ∙ ap length e

-- the row at an index
pub row-numbered : (rows : List Row) (numbers : List ℕ) (lent : List Row) (index : ℕ) (row : Row) → AreWithin rows numbers → rows_numbered rows numbers ≡ lent → index < length lent
    → row ≡ get_or rows (get_or numbers index 0) row → row ≡ get_or lent index row
unfolding row_numbered
row-numbered rows numbers lent index row are e less is =
    let size = count-is rows numbers lent e in
    let few : index < length numbers = omega arith in
    let within = within-at rows numbers index are few in
    is ∙ get_or_default rows (get_or numbers index 0) row (End 0 0) within ∙ sym (get_or-map (row_numbered rows) numbers index 0 row few) ∙ ap (λ w. get_or w index row) e
