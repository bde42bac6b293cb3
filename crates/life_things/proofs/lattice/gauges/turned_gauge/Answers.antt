use mir.Syntax.{w128}
use mir.Val.{of_z, to_z}
use Rattle.std.proofs.Common.{◌≡◌, ℤ, pos, neg_ℤ, ◌-ℤ◌, arith}
use Rattle.std.proofs.lemmas.Int.{ints}
use Rattle.life_growth.proofs.MeetingLemmas.Reach.{step_is}
use Rattle.life_things.specs.Lattice.Gauges.{turned_gauge}
use Rattle.life_things.specs.Lattice.Short.{IsWithin, cross_limit}
use Rattle.life_things.proofs.lattice.gauges.turned_gauge.Goals as goal

turned_is : (x : ℤ) → IsWithin cross_limit x → to_z w128 (of_z w128 (pos 0 -ℤ to_z w128 (of_z w128 x))) ≡ neg_ℤ x
turned_is x h = omega (arith, ints)

pub returns-clause-value : goal.returns-clause-value
returns-clause-value c =
    step_is _ (turned_gauge c.args.gauge) (turned_is c.args.gauge.0 c.requires.time)
    (turned_is c.args.gauge.1.0 c.requires.across) (turned_is c.args.gauge.1.1 c.requires.along)
