use Rattle.life_slots.proofs.Halves.{joined_west, joined_east}
use Rattle.life_slots.proofs.area.joined.Goals as goal

pub returns-clause-west : goal.returns-clause-west
returns-clause-west c = λ x small. rw (c.from.ensures, c.from-2.ensures) (joined_west c.args.west c.args.east x small)

pub returns-clause-east : goal.returns-clause-east
returns-clause-east c = λ x small. rw (c.from.ensures, c.from-2.ensures) (joined_east c.args.west c.args.east x c.ranges.west.fits small)
