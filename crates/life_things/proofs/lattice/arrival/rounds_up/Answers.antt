use mir.Syntax.{w128}
use mir.Val.{of_z, to_z}
use Rattle.std.proofs.Common.{nat_abs, pos, ◌-ℤ◌, arith}
use Rattle.std.proofs.lemmas.Int.{ints}
use Rattle.life_things.proofs.LatticeLemmas.Rising.{no_rest}
use Rattle.life_things.proofs.lattice.arrival.rounds_up.Goals as goal

pub returns-then-distance-gain-ne0-clause-none : goal.returns-then-distance-gain-ne0-clause-none
returns-then-distance-gain-ne0-clause-none c n e =
    c.if-distance-gain-ne0.true
    (no_rest (nat_abs (to_z w128 (of_z w128 (pos 0 -ℤ to_z w128 (of_z w128 c.args.start))))) n c.args.gain c.requires.gain
    (omega (arith, ints)))
