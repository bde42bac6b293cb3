use Rattle.std.proofs.Common.{take, ◌∙◌, arith}
use Rattle.life_classes.specs.Grouped.{lists_of}
use Rattle.life_islands.proofs.Collected.{as_many_lists, none_by_roots, one_more_by_root}
use Rattle.life_islands.proofs.gathering.by_root.Goals as goal

pub loop-n-init : goal.loop-n-init
loop-n-init c = c.in_ok-lists.ensures ∙ none_by_roots c.args.cells.now c.args.forest.now

pub put-requires : goal.put-requires
put-requires c =
    let long = as_many_lists c.loop-n.lists.items c.args.cells.now c.args.forest.now (take c.loop-n.n c.args.cells.now) c.loop-n.invariant in
    let less = c.root.ensures.less in
    let within = c.loop-n-test.true in
    omega arith

pub loop-n-preserved : goal.loop-n-preserved
loop-n-preserved c =
    one_more_by_root c.args.cells.now c.args.forest.now c.loop-n.n c.root.result (lists_of c.loop-n.lists.items)
    (lists_of c.put.new.lists.items) c.requires c.loop-n-test.true c.root.ensures.value c.root.ensures.less c.loop-n.invariant
    c.in_ok-put.ensures
