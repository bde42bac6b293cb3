use Rattle.std.proofs.Common.{◌≡◌, ◌+◌, ◌*◌, ◌/◌, ◌%◌, ◌^◌, length, get_or, map, set, subst, take, sym, ap, ◌∙◌, arith}
use Rattle.life_cells.specs.Orients.{orientation}
use Rattle.life_codes.specs.Lengths.Frames.{cell_in_frame, strips_of, wide_of}
use Rattle.life_codes.specs.Lengths.Grids.{HoldsWeights}
use Rattle.life_codes.proofs.LengthsLemmas.Filled.{weight_small, value_more, filled_more, weights_within}
use Rattle.life_codes.proofs.grid.fill.Goals as goal

pub overflow_add-values-in-loop-cell : goal.overflow_add-values-in-loop-cell
overflow_add-values-in-loop-cell c =
    let f = c.args.frame in
    let d = cell_in_frame (orientation c.args.orient) f in
    let cells = c.args.cells.now in
    let i = c.loop-cell.cell-index in
    let p = c.place_in-column.result.0 in
    let r = c.place_in-column.result.1 in
    let room : length c.loop-cell.values ≡ strips_of f * wide_of f = c.loop-cell.auto.values ∙ c.requires.room in
    let wide : c.width-wide.result ≡ wide_of f = c.width-wide.ensures in
    let value = value_more d cells i c.loop-cell.values (wide_of f) (strips_of f) p r c.loop-cell-test.true c.place_in-column.ensures.place c.place_in-column.ensures.column c.place_in-column.ensures.strip room c.loop-cell.invariant in
    let within = weights_within d cells i (r / 5) p c.loop-cell-test.true in
    let small = c.requires.small (r / 5) p in
    let weight = weight_small r in
    let at = ap (λ w. get_or c.loop-cell.values (r / 5 * w + p) 0) wide in
    omega arith

pub loop-cell-preserved : goal.loop-cell-preserved
loop-cell-preserved c =
    let f = c.args.frame in
    let d = cell_in_frame (orientation c.args.orient) f in
    let cells = c.args.cells.now in
    let i = c.loop-cell.cell-index in
    let p = c.place_in-column.result.0 in
    let r = c.place_in-column.result.1 in
    let room : length c.loop-cell.values ≡ strips_of f * wide_of f = c.loop-cell.auto.values ∙ c.requires.room in
    let wide : c.width-wide.result ≡ wide_of f = c.width-wide.ensures in
    let values = c.loop-cell.values in
    subst
    (λ w. HoldsWeights (set values (r / 5 * w + p) (get_or values (r / 5 * w + p) 0 + 1 * 2 ^ (r % 5) % 256)) (wide_of f) (strips_of f) (map d (take (i + 1) cells)))
    (sym wide)
    (filled_more d cells i values (wide_of f) (strips_of f) p r c.loop-cell-test.true c.place_in-column.ensures.place c.place_in-column.ensures.column c.place_in-column.ensures.strip room c.loop-cell.invariant
    _ (ap (λ n. get_or values (r / 5 * wide_of f + p) 0 + n) (weight_small r)))
