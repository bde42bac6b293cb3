use Rattle.std.proofs.Common.{length}
use Rattle.census_readback.specs.Steps.{reading_of}
use Rattle.census_readback.specs.Told.{told_of}
use Rattle.census_readback.proofs.Walks.{Walked}
use Rattle.census_readback.proofs.reading.fault_of.Given as goal

abbrev pub invariant-loop-first : goal.invariant-loop-first
invariant-loop-first l = Walked l.text (told_of l.told) (reading_of l.progress) l.number l.rest

abbrev pub decreases-loop-first : goal.decreases-loop-first
decreases-loop-first l = length l.rest
