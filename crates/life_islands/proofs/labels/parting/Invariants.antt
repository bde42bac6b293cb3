use Rattle.life_islands.proofs.labels.parting.Given as goal

-- nothing needs to be kept
abbrev pub invariant-loop-more : goal.invariant-loop-more
invariant-loop-more l = record {}
