use Rattle.std.proofs.Common.{◌<◌, length}
use Rattle.life_ash.proofs.newcomers.loneliest.Given as goal

abbrev pub invariant-loop-n : goal.invariant-loop-n
invariant-loop-n l = record { within : l.best < length l.sets }
