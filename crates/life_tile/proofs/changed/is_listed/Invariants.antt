use Rattle.std.proofs.Common.{◌-◌}
use Rattle.life_tile.proofs.Halved.{IsNarrowed}
use Rattle.life_tile.proofs.changed.is_listed.Given as goal

abbrev pub invariant-loop-low : goal.invariant-loop-low
invariant-loop-low l = record { narrowed : IsNarrowed l.cells l.cell l.low l.high }

abbrev pub decreases-loop-low : goal.decreases-loop-low
decreases-loop-low l = l.high - l.low
