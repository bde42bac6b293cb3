use Rattle.std.proofs.Common.{◌<◌, length}
use Rattle.life_strays.proofs.choosing.largest.Given as goal

abbrev pub invariant-loop-n : goal.invariant-loop-n
invariant-loop-n l = l.best < length l.islands
