use Rattle.std.proofs.Common.{◌≤◌, ◌<◌, ◌-◌, length}
use Rattle.life_slots.proofs.seats.end_of_row.Given as goal

abbrev pub invariant-loop-to : goal.invariant-loop-to
invariant-loop-to l = record { later : l.from < l.to; inside : l.to ≤ length l.seats }

abbrev pub decreases-loop-to : goal.decreases-loop-to
decreases-loop-to l = length l.seats - l.to
