use Rattle.std.proofs.Common.{◌-◌}
use Rattle.census_folders.proofs.hints.passed_over.Given as goal

abbrev pub decreases-loop-at : goal.decreases-loop-at
decreases-loop-at g l = 18446744073709551615 - l.at
