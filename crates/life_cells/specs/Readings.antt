-- The result of reading a text, whatever its faults.
use Rattle.std.specs.Prelude.{◌≡◌, ◌≢◌, ℕ, pos, List, ◌++◌, Option, Some, None, Result, Ok, Err}
use Rattle.life_model.specs.Cell.{Cell}

-- the cell of a column and a row
abbrev pub cell_of_pair : ℕ × ℕ → Cell
cell_of_pair (x, y) = (pos x, pos y)

-- what was read, or the fault if there is one
abbrev pub unless_refused : {X F : Type 0} → Option F → X → Result X F
unless_refused None x = Ok x
unless_refused (Some fault) x = Err fault

-- the result of reading, with these cells before its own
abbrev pub with_prefix : {F : Type 0} → List Cell → Result (List Cell) F → Result (List Cell) F
with_prefix prefix (Ok cells) = Ok (prefix ++ cells)
with_prefix prefix (Err fault) = Err fault

-- the result returned, seen through `view`, is that of reading, unless the fault is out of memory
abbrev pub Gives : {X Y F : Type 0} → F → (X → Y) → Result X F → Result Y F → Type 0
Gives memory view (Ok x) read = read ≡ Ok (view x)
Gives memory view (Err fault) read = fault ≢ memory → read ≡ Err fault
