use Rattle.life_tile.proofs.Fits.{fits}
use Rattle.life_tile.proofs.plane.TilePlanePlane.step.Goals as goal

pub returns-clause-within : goal.returns-clause-within
returns-clause-within c = fits c.advance.new.self c.advance.ensures.kept
