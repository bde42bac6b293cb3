use Rattle.std.proofs.Common.{◌≡◌, ◌++◌}
use Rattle.std.specs.List.{All}
use Rattle.std.specs.Vec.Iter.{into_iter_items}
use Rattle.life_strays.specs.Strays.{IsIslandNow}
use Rattle.life_strays.proofs.islands.islands_of.Given as goal

abbrev pub invariant-loop-class : goal.invariant-loop-class
invariant-loop-class g l = record {
  order : l.yielded ++ into_iter_items l.class-iterator ≡ into_iter_items l.initial.class-iterator;
  kept : All (IsIslandNow l.rule (g.P.Plane.members l.plane)) l.islands.items;
}
