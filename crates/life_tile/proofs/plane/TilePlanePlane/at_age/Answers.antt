use Rattle.std.proofs.Common.{ap, ◌∙◌}
use Rattle.life_model.specs.Generation.{from_list}
use Rattle.life_model.proofs.Generations.{from_list-cells}
use Rattle.life_tile.proofs.Fits.{fits}
use Rattle.life_tile.proofs.plane.TilePlanePlane.at_age.Goals as goal

pub returns-clause-cells : goal.returns-clause-cells
returns-clause-cells c = c.in_ok-store.ensures.members ∙ ap from_list c.as_slice.ensures.cells ∙ from_list-cells c.args.list.now

pub returns-clause-within : goal.returns-clause-within
returns-clause-within c = fits c.in_ok-store.store c.in_ok-store.ensures.kept
