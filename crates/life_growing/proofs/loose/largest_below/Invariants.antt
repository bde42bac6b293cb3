use Rattle.std.proofs.Common.{◌<◌, IfSome, length}
use Rattle.life_growing.proofs.loose.largest_below.Given as goal

abbrev pub invariant-loop-n : goal.invariant-loop-n
invariant-loop-n l = IfSome l.largest (λ place. place < length l.classes)
