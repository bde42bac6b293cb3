use Rattle.life_tile.proofs.Fits.{fits}
use Rattle.life_tile.proofs.plane.TilePlanePlane.copy.Goals as goal

pub returns-clause-within : goal.returns-clause-within
returns-clause-within c = fits c.in_ok-store.store c.in_ok-store.ensures.kept
