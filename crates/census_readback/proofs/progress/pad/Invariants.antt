use Rattle.std.proofs.Common.{◌≡◌, ◌-◌, ◌≤◌, length, max}
use Rattle.census_readback.specs.Steps.{padded_places}
use Rattle.census_readback.proofs.progress.pad.Given as goal

abbrev pub invariant-loop-places : goal.invariant-loop-places
invariant-loop-places l = record {
  same : l.places.items ≡ padded_places l.initial.places.items (length l.places.items);
  least : length l.initial.places.items ≤ length l.places.items;
  most : length l.places.items ≤ max l.count (length l.initial.places.items);
}

abbrev pub decreases-loop-places : goal.decreases-loop-places
decreases-loop-places l = l.count - length l.places.items
