use Rattle.std.proofs.Common.{◌≡◌, ℕ, pos, ◌+ℤ◌, ◌-ℤ◌, ◌+◌, w32, to_z, of_z, get_or, ap, ◌∙◌, arith}
use Rattle.std.proofs.lemmas.Int.{ints}
use lib.IntN.{nat_abs}
use Rattle.life_model.specs.Cell.{Cell, origin, plus}
use Rattle.life_model.specs.Generation.{contains}
use Rattle.life_model.proofs.Cells.{pair}
use Rattle.life_plane.specs.Flags.{as_bit}
use Rattle.life_tile.specs.TileStores.{members_of}
use Rattle.life_tile.proofs.Listed.{beside_one}
use Rattle.life_tile.proofs.standing.live_beside.Goals as goal

pub overflow_sub-dx : goal.overflow_sub-dx
overflow_sub-dx c =
    let cell = c.requires.placed c.args.n origin c.requires.n in
    let first = c.requires.placed c.args.lead origin c.requires.lead in
    omega (arith, ints, cell.left, cell.right, first.left, first.right)

pub moved-requires-clause-cell : goal.moved-requires-clause-cell
moved-requires-clause-cell c = c.requires.placed c.args.n origin c.requires.n

pub moved-requires-clause-from : goal.moved-requires-clause-from
moved-requires-clause-from c = c.requires.placed c.args.lead origin c.requires.lead

pub returns-then-dx-lt64 : goal.returns-then-dx-lt64
returns-then-dx-lt64 c = λ j d inside led member.
    let cell : Cell = get_or c.args.cells.now c.args.n origin in
    let first : Cell = get_or c.args.cells.now c.args.lead origin in
    let cell_placed = c.requires.placed c.args.n origin c.requires.n in
    let first_placed = c.requires.placed c.args.lead origin c.requires.lead in
    let across = ap (λ (e : Cell). e.0) led in
    let down = ap (λ (e : Cell). e.1) led in
    let dx : ℕ = nat_abs (to_z w32 (of_z w32 (to_z w32 (of_z w32 cell.0) -ℤ to_z w32 (of_z w32 first.0)))) in
    let dx_is : (first.0 +ℤ pos dx) ≡ cell.0 = omega (arith, ints, cell_placed.left, cell_placed.right, first_placed.left, first_placed.right) in
    beside_one c.args.word dx j inside
    (λ near.
    let there : ◌≡◌ {A = Cell} (c.args.start.0 +ℤ pos (dx + j), c.args.start.1) (plus cell d) =
    pair (omega (arith, ints, across, dx_is)) (omega (arith, ints, down, cell_placed.above, cell_placed.below, first_placed.above, first_placed.below)) in
    c.requires.row (dx + j) near ∙ ap as_bit (ap (contains (members_of c.args.store.now)) there ∙ member))

pub returns-else-cells-n : goal.returns-else-cells-n
returns-else-cells-n c = λ j d inside led member.
    let across = ap (λ (e : Cell). e.0) led in
    let down = ap (λ (e : Cell). e.1) led in
    let to_across = ap (λ (e : Cell). e.0) c.moved.ensures.is in
    let to_down = ap (λ (e : Cell). e.1) c.moved.ensures.is in
    let there : ◌≡◌ {A = Cell} (c.moved.result.0 +ℤ pos j, c.moved.result.1) (plus (get_or c.args.cells.now c.args.n origin) d) =
    pair (omega (arith, ints, across, to_across)) (omega (arith, ints, down, to_down)) in
    c.row_from.ensures j inside ∙ ap as_bit (ap (contains (members_of c.args.store.now)) there ∙ member)
