use Rattle.life_classes.proofs.Joined.{tied_through}
use Rattle.life_classes.proofs.Numbers.{relabelled}
use Rattle.life_classes.proofs.Tied.{one_more_tied}
use Rattle.life_classes.proofs.joining.join_near.Goals as goal

pub tie_at-requires-clause-labelled : goal.tie_at-requires-clause-labelled
tie_at-requires-clause-labelled c =
    relabelled c.args.cells.now c.args.forest.now.items c.loop-n.forest.items c.loop-n.invariant.tied.long c.requires.labelled

pub loop-n-preserved : goal.loop-n-preserved
loop-n-preserved c =
    let old = c.loop-n.forest.items in
    let new = c.tie_at.new.forest.items in
    record {
      above = c.tie_at.ensures.above;
      further = c.tie_at.ensures.further;
      tied = tied_through c.args.cells.now c.args.forest.now.items old new c.loop-n.invariant.tied c.tie_at.ensures.tied;
      all =
          one_more_tied c.args.cells.now.tags.items old new c.loop-n.n c.tie_at.ensures.tied.coarser c.loop-n.invariant.all
          c.tie_at.ensures.at;
    }
