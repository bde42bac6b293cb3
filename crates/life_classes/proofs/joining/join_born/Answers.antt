use Rattle.std.proofs.Common.{◌≡◌, length, subst, arith}
use Rattle.life_classes.proofs.Born.{AreTiedAbout, joined_anywhere, near_by_listed, one_more_about, others_still}
use Rattle.life_classes.proofs.Joined.{tied_through}
use Rattle.life_classes.proofs.Numbers.{relabelled}
use Rattle.life_classes.proofs.Tied.{at_still, joined_by_ties}
use Rattle.life_classes.proofs.joining.join_born.Goals as goal

pub loop-n-preserved : goal.loop-n-preserved
loop-n-preserved c =
    let l = c.args.cells.now in
    let ts = l.tags.items in
    let first = c.args.forest.now.items in
    let old = c.loop-n.forest.items in
    let between = c.tie_at.new.forest.items in
    let new = c.tie_below.new.forest.items in
    let tied = tied_through l old between new c.tie_at.ensures.tied c.tie_below.ensures.tied in
    record {
      above = c.tie_at.ensures.above;
      further = c.tie_at.ensures.further;
      below = c.tie_below.ensures.below;
      beyond = c.tie_below.ensures.beyond;
      tied = tied_through l first old new c.loop-n.invariant.tied tied;
      all =
          one_more_about ts old new c.args.born.now c.loop-n.n-index 0 tied.coarser c.loop-n-test.true c.loop-n.invariant.all
          (record { at = at_still ts between new _ c.tie_below.ensures.tied.coarser c.tie_at.ensures.at; after = c.tie_below.ensures.after });
    }

pub returns-clause-near : goal.returns-clause-near
returns-clause-near c =
    let l = c.args.cells.now in
    let ts = l.tags.items in
    let f = c.args.forest.now.items in
    let g = c.loop-n.forest.items in
    let born = c.args.born.now in
    let past = c.loop-n-test.false in
    let end = c.loop-n.auto.n-index-end in
    let whole : c.loop-n.n-index ≡ length born = omega arith in
    near_by_listed l g (relabelled l f g c.loop-n.invariant.tied.long c.requires.labelled) born
    (others_still l f g born c.loop-n.invariant.tied.coarser c.requires.others)
    (subst (AreTiedAbout ts g born) whole c.loop-n.invariant.all)

pub returns-then-born-len-clause-near : goal.returns-then-born-len-clause-near
returns-then-born-len-clause-near c =
    let l = c.args.cells.now in
    let g = c.join_near.new.forest.items in
    let labelled = relabelled l c.args.forest.now.items g c.join_near.ensures.tied.long c.requires.labelled in
    joined_anywhere l g labelled (joined_by_ties l g labelled c.join_near.ensures.all)
