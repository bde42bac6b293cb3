use Rattle.std.proofs.Common.{◌≡◌, ◌++◌}
use Rattle.std.specs.List.{All}
use Rattle.std.specs.Vec.Iter.{into_iter_items}
use Rattle.life_model.specs.Generation.{Generation}
use Rattle.life_model.specs.Rule.{Rule}
use Rattle.life_strays.specs.Strays.{IsIslandNow}
use Rattle.life_strays.proofs.choosing.absent.Given as goal

abbrev pub invariant-loop-island : goal.invariant-loop-island
invariant-loop-island g l = record {
  order : l.yielded ++ into_iter_items l.island-iterator ≡ into_iter_items l.initial.island-iterator;
  kept : (R : Rule) (G : Generation) → All (IsIslandNow R G) l.fn.islands.items → All (IsIslandNow R G) l.left.items;
  standing : (R : Rule) (G : Generation) → All (IsIslandNow R G) l.fn.islands.items →
      All (IsIslandNow R G) l.fn.standing.items → All (IsIslandNow R G) l.standing.items;
}
