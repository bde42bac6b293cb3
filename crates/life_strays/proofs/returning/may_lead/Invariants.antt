use Rattle.life_strays.proofs.returning.may_lead.Given as goal

abbrev pub invariant-loop-cell : goal.invariant-loop-cell
invariant-loop-cell g l = Unit {0}
