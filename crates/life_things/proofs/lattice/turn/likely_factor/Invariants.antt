use Rattle.life_things.proofs.lattice.turn.likely_factor.Given as goal

-- the modulus is unchanged
abbrev pub invariant-loop-rest : goal.invariant-loop-rest
invariant-loop-rest l = Unit {0}

abbrev pub decreases-loop-rest : goal.decreases-loop-rest
decreases-loop-rest l = l.rest
