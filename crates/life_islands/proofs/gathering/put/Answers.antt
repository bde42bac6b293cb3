use Rattle.std.proofs.Common.{arith}
use Rattle.life_classes.proofs.Grouping.{one_cell_put}
use Rattle.life_islands.proofs.gathering.put.Goals as goal

pub returns : goal.returns
returns c =
    one_cell_put c.args.lists.now.items c.args.place c.index_mut.result.now c.push.new.self c.args.cell (omega arith)
    c.index_mut.ensures.value c.in_ok-push.ensures.items
