use Rattle.std.proofs.Common.{◌-◌, length}
use Rattle.life_classes.proofs.tags.leap.Given as goal

abbrev pub decreases-loop-step : goal.decreases-loop-step
decreases-loop-step l = length l.tags - l.from - l.step
