use Rattle.life_tile.proofs.Covered.{joined_near, joined_far}
use Rattle.life_tile.proofs.covering.joined.Goals as goal

pub returns-else-shift-eq0-clause-near : goal.returns-else-shift-eq0-clause-near
returns-else-shift-eq0-clause-near c = λ j near. joined_near c.args.west c.args.east c.args.shift j c.requires near

pub returns-else-shift-eq0-clause-far : goal.returns-else-shift-eq0-clause-far
returns-else-shift-eq0-clause-far c = λ j inside far. joined_far c.args.west c.args.east c.args.shift j c.ranges.west.fits c.requires inside far
