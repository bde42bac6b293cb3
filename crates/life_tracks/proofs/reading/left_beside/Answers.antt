use Rattle.life_tracks.proofs.Gathering.{more_left, none_left}
use Rattle.life_tracks.proofs.reading.left_beside.Goals as goal

pub loop-other-init : goal.loop-other-init
loop-other-init c = none_left c.args.classes.now c.args.parents.now c.args.place c.in_ok-left.left c.in_ok-left.ensures

pub loop-other-preserved : goal.loop-other-preserved
loop-other-preserved c =
    more_left c.args.classes.now c.args.parents.now c.args.place c.loop-other.other c.loop-other.left c.in_ok-left-2.left
    c.loop-other.invariant c.in_ok-left-2.ensures
