use Rattle.std.proofs.Common.{◌≡◌, pos, ◌+◌, ◌<◌, ◌≤◌, [], length, take, refl, sym, ap, ◌∙◌, arith}
use Rattle.std.specs.List.{sum_by}
use Rattle.std.proofs.lemmas.List.{take_all}
use Rattle.std.proofs.lemmas.List.Sums.{sum_by_more, sum_by_more_le}
use Rattle.life_slots.specs.Cells.{tile_count}
use Rattle.life_slots.specs.Slots.{tile_of}
use Rattle.life_slots.proofs.counting.count_cells.Goals as goal

pub loop-tile-init : goal.loop-tile-init
loop-tile-init c = refl

pub overflow_add-count : goal.overflow_add-count
overflow_add-count c =
    let inside : c.loop-tile.tile-index < length c.args.tiles.now = c.loop-tile-test.true in
    let here : c.count_tile-count.result ≡ tile_count (tile_of c.args.tiles.now c.loop-tile.tile-index) = c.count_tile-count.ensures (pos 0) (pos 0) in
    let before : c.loop-tile.count ≡ sum_by tile_count (take c.loop-tile.tile-index c.args.tiles.now) = c.loop-tile.invariant in
    let fits : sum_by tile_count (take c.loop-tile.tile-index c.args.tiles.now) + tile_count (tile_of c.args.tiles.now c.loop-tile.tile-index) ≤ sum_by tile_count c.args.tiles.now =
    sum_by_more_le tile_count c.args.tiles.now c.loop-tile.tile-index (record { rows = [] }) inside in
    let few = c.requires in
    omega (arith, here, before, fits, few)

pub loop-tile-preserved : goal.loop-tile-preserved
loop-tile-preserved c =
    let inside : c.loop-tile.tile-index < length c.args.tiles.now = c.loop-tile-test.true in
    let here : c.count_tile-count.result ≡ tile_count (tile_of c.args.tiles.now c.loop-tile.tile-index) = c.count_tile-count.ensures (pos 0) (pos 0) in
    (λ i. c.loop-tile.invariant i + here i) ∙ sym (sum_by_more tile_count c.args.tiles.now c.loop-tile.tile-index (record { rows = [] }) inside)

pub returns : goal.returns
returns c =
    let all : length c.args.tiles.now ≤ c.loop-tile.tile-index = c.loop-tile-test.false in
    c.loop-tile.invariant ∙ ap (sum_by tile_count) (take_all c.loop-tile.tile-index c.args.tiles.now all)
