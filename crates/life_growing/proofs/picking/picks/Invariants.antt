use Rattle.std.proofs.Common.{◌≡◌, ◌++◌, length}
use Rattle.std.specs.Vec.Iter.{into_iter_items, into_iter_len}
use Rattle.life_classes.specs.Tracking.{first_sets}
use Rattle.life_growing.specs.Picking.{ArePicks}
use Rattle.life_growing.proofs.picking.picks.Given as goal

abbrev pub invariant-loop-class : goal.invariant-loop-class
invariant-loop-class g l = record {
  order : l.yielded ++ into_iter_items l.class-iterator ≡ into_iter_items l.initial.class-iterator;
  as_many : into_iter_len l.class-iterator ≡ length (into_iter_items l.class-iterator);
  picked : ArePicks l.rule l.bound l.length (first_sets l.yielded) l.engines.items l.others.items;
}
