use Rattle.std.proofs.Common.{ap}
use Rattle.life_model.specs.Rule.{stays}
use Rattle.life_cells.proofs.rule.Rule.stays.Goals as goal

pub returns : goal.returns
unfolding stays
returns c = ap (λ R. stays R c.args.neighbours) c.self.view_is
