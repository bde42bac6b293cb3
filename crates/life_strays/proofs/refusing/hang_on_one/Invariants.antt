use Rattle.life_strays.proofs.refusing.hang_on_one.Given as goal

abbrev pub invariant-loop-stray : goal.invariant-loop-stray
invariant-loop-stray l = Unit {0}
