-- Cells of a list by their index.
use Rattle.std.proofs.Common.{◌≡◌, ℕ, ◌<◌, true, List, get_or, length, sym, ◌∙◌, refl}
use Rattle.std.proofs.lemmas.List.{get_or_default}
use Rattle.std.proofs.lemmas.List.Folds.{Any-from_list_any, list_any_at}
use Rattle.life_model.specs.Cell.{Cell, origin, same_cell}
use Rattle.life_model.proofs.Cells.{same_cell-is}
use Rattle.life_plane.specs.Field.{has}

-- each cell that a list has is at some index of it
pub place_of : (all : List Cell) (c : Cell) → has all c ≡ true → (i : ℕ) × (i < length all) × (get_or all i origin ≡ c)
place_of all c h =
    let one = Any-from_list_any (same_cell c) all h in
    (one.0, one.2, sym (get_or_default all one.0 one.1 origin one.2) ∙ one.3 ∙ sym ((same_cell-is c one.1).0 one.4))

-- and a list has the cell at each index
pub has_listed : (all : List Cell) (i : ℕ) → i < length all → has all (get_or all i origin) ≡ true
has_listed all i h =
    let x = get_or all i origin in
    list_any_at (same_cell x) all i origin h ((same_cell-is x x).1 refl)
