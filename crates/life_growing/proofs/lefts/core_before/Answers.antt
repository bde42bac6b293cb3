use Rattle.std.proofs.Common.{◌∙◌}
use Rattle.life_growing.proofs.GoingCores.{core_of_step}
use Rattle.life_growing.proofs.lefts.core_before.Goals as goal

pub returns : goal.returns
returns c =
    c.core.ensures
    ∙ core_of_step c.args.track.now c.steps.result.now c.steps.ensures c.index-steps-n.result c.args.n c.if-n-eq0.false
    c.requires c.index-steps-n.is
