use Rattle.std.proofs.Common.{◌∙◌}
use Rattle.life_tracks.proofs.Along.{core_at_last}
use Rattle.life_tracks.proofs.track.end_of.Goals as goal

pub returns : goal.returns
returns c =
    c.core.ensures
    ∙ core_at_last c.args.start.now c.args.steps.now c.index-steps-steps.result c.if-steps-eq0.false c.index-steps-steps.is
