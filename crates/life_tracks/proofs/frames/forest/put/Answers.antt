use Rattle.std.proofs.Common.{arith}
use Rattle.life_classes.proofs.Forests.{is_root, root-set_roots, sum-set}
use Rattle.life_tracks.proofs.frames.forest.put.Goals as goal

pub returns-clause-moved : goal.returns-clause-moved
returns-clause-moved c =
    let f = c.args.forest.now.items in
    root-set_roots f c.args.high c.args.low c.requires.within c.requires.less (is_root f c.args.high c.requires.high)
    (is_root f c.args.low c.requires.low)

pub returns-clause-less : goal.returns-clause-less
returns-clause-less c =
    let f = c.args.forest.now.items in
    let high = is_root f c.args.high c.requires.high in
    sum-set f c.args.high c.args.low c.requires.within c.requires.less (omega arith)
