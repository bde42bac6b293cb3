use Rattle.life_slots.proofs.EndCells.{tile_ends}
use Rattle.life_slots.proofs.ends.Ends.of_tile.Goals as goal

pub returns : goal.returns
returns c =
    tile_ends c.args.tile.now c.args.place c.in_ok-left.left c.in_ok-left.top c.in_ok-right.right c.in_ok-right.bottom c.cell_at.result c.cell_at-2.result
    c.in_ok-left.ensures c.in_ok-right.ensures c.cell_at.ensures c.cell_at-2.ensures
