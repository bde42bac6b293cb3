use Rattle.std.proofs.Common.{ap, ◌∙◌}
use Rattle.life_model.specs.Generation.{size}
use Rattle.life_orbit.proofs.Backwards.{size_then}
use Rattle.life_orbit.proofs.orbit.Orbit.size_ago.Goals as goal

pub returns : goal.returns
returns c P past =
    c.len.ensures ∙ ap size c.phase_ago.ensures
    ∙ size_then c.args.self.now P c.args.ago c.requires c.period-period.ensures.recurs past
