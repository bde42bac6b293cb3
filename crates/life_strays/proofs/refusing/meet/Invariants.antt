use Rattle.life_strays.proofs.refusing.meet.Given as goal

abbrev pub invariant-loop-cell : goal.invariant-loop-cell
invariant-loop-cell l = Unit {0}
