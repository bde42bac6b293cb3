use Rattle.life_strays.proofs.trailing.some_tell.Given as goal

abbrev pub invariant-loop-trail : goal.invariant-loop-trail
invariant-loop-trail l = Unit {0}
