use Rattle.std.proofs.Common.{◌≡◌, length}
use Rattle.census_readback.specs.Rules.{after_rising}
use Rattle.census_readback.proofs.rules.after_rising.Given as goal

abbrev pub invariant-loop-rest : goal.invariant-loop-rest
invariant-loop-rest l = after_rising l.first l.text ≡ after_rising l.least l.rest

abbrev pub decreases-loop-rest : goal.decreases-loop-rest
decreases-loop-rest l = length l.rest
