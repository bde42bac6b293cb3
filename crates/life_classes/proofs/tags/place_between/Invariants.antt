use Rattle.std.proofs.Common.{◌-◌, ◌≤◌, length}
use Rattle.life_classes.specs.Tags.{AreFrom, AreLess}
use Rattle.life_classes.proofs.tags.place_between.Given as goal

-- the tags before have smaller numbers, and those after do not
abbrev pub invariant-loop-from : goal.invariant-loop-from
invariant-loop-from l = record {
  order : l.from ≤ l.to;
  within : l.to ≤ length l.tags;
  less : AreLess l.tags l.from l.low;
  least : AreFrom l.tags l.to l.low;
}

abbrev pub decreases-loop-from : goal.decreases-loop-from
decreases-loop-from l = l.to - l.from
