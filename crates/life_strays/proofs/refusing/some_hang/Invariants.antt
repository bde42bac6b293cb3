use Rattle.life_strays.proofs.refusing.some_hang.Given as goal

abbrev pub invariant-loop-later : goal.invariant-loop-later
invariant-loop-later l = Unit {0}
