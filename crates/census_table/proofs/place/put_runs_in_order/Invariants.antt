use Rattle.std.proofs.Common.{◌-◌, length}
use Rattle.census_table.specs.Places.{place_cmp}
use Rattle.census_table.proofs.Rising.{place_total}
use Rattle.census_table.proofs.Ties.{AreRun}
use Rattle.census_table.proofs.place.put_runs_in_order.Given as goal

abbrev pub invariant-loop-at : goal.invariant-loop-at
invariant-loop-at g l = AreRun (g.O.OrderAtPlaces.cmp l.order) place_cmp (g.O.OrderAtPlaces.total l.order) place_total l.fn.places l.places l.at

abbrev pub decreases-loop-at : goal.decreases-loop-at
decreases-loop-at g l = length l.places - l.at
