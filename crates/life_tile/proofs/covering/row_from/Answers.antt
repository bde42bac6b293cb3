use Rattle.std.proofs.Common.{◌≡◌, pos, ◌+ℤ◌, ◌+◌, ◌-◌, ◌<◌, ◌≤◌, ⊎_elim, w32, to_z, of_z, ap, ◌∙◌, arith}
use Rattle.std.proofs.lemmas.Bool.{cases_lt}
use Rattle.std.proofs.lemmas.Int.{ints}
use Rattle.life_slots.specs.Places.{start_at}
use Rattle.life_slots.specs.Cells.{state_at}
use Rattle.life_tile.specs.TileStores.{members_of}
use Rattle.life_tile.proofs.covering.row_from.Goals as goal

pub returns : goal.returns
returns c = λ j inside.
    let reach = c.requires.reach in
    let small_x = c.split-column.ensures.small in
    let small_y = c.split-row.ensures.small in
    let column_is : to_z w32 (of_z w32 c.split-column.result.0) ≡ c.split-column.result.0 = omega (arith, ints, c.split-column.ensures.is, reach.west, reach.east) in
    let row_is : to_z w32 (of_z w32 c.split-row.result.0) ≡ c.split-row.result.0 = omega (arith, ints, c.split-row.ensures.is, reach.north, reach.south) in
    let down : (start_at c.split-row.result.0 +ℤ pos c.split-row.result.1) ≡ c.args.cell.1 = omega (arith, ints, c.split-row.ensures.is, reach.north, reach.south) in
    ⊎_elim
    (λ (near : c.split-column.result.1 + j < 64).
    let at : (start_at c.split-column.result.0 +ℤ pos (c.split-column.result.1 + j)) ≡ (c.args.cell.0 +ℤ pos j) = omega (arith, ints, c.split-column.ensures.is, reach.west, reach.east) in
    c.joined.ensures.near j near ∙ c.row_at-west.ensures (c.split-column.result.1 + j) near
    ∙ (λ i. state_at (members_of c.args.store.now) (start_at (column_is i) +ℤ pos (c.split-column.result.1 + j)) (start_at (row_is i) +ℤ pos c.split-row.result.1))
    ∙ (λ i. state_at (members_of c.args.store.now) (at i) (down i)))
    (λ (far : 64 ≤ c.split-column.result.1 + j).
    let small : c.split-column.result.1 + j - 64 < 64 = omega (arith, c.split-column.ensures.small) in
    let at : (start_at (to_z w32 (of_z w32 (to_z w32 (of_z w32 c.split-column.result.0) +ℤ pos 1))) +ℤ pos (c.split-column.result.1 + j - 64)) ≡ (c.args.cell.0 +ℤ pos j) =
    omega (arith, ints, c.split-column.ensures.is, reach.west, reach.east) in
    c.joined.ensures.far j inside far ∙ c.row_at-east.ensures (c.split-column.result.1 + j - 64) small
    ∙ (λ i. state_at (members_of c.args.store.now) (at i) (start_at (row_is i) +ℤ pos c.split-row.result.1))
    ∙ ap (state_at (members_of c.args.store.now) (c.args.cell.0 +ℤ pos j)) down)
    (cases_lt (c.split-column.result.1 + j) 64)
