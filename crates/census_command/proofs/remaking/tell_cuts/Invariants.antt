use Rattle.std.proofs.Common.{take}
use Rattle.census_command.specs.Remakes.{TellsCuts}
use Rattle.census_command.proofs.remaking.tell_cuts.Given as goal

abbrev pub invariant-loop-cut : goal.invariant-loop-cut
invariant-loop-cut g l = TellsCuts (take l.cut-index l.cuts) l.fn.errors.stream l.errors.stream
