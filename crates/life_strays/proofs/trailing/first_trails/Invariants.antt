use Rattle.std.proofs.Common.{◌≡◌, ℕ, ◌++◌}
use Rattle.std.specs.List.{All}
use Rattle.std.specs.Vec.Iter.{into_iter_items}
use Rattle.life_model.specs.Generation.{Generation}
use Rattle.life_model.specs.Rule.{Rule}
use Rattle.life_strays.specs.Strays.{IsIslandNow, IsTrail}
use Rattle.life_strays.proofs.trailing.first_trails.Given as goal

abbrev pub invariant-loop-island : goal.invariant-loop-island
invariant-loop-island l = record {
  order : l.yielded ++ into_iter_items l.island-iterator ≡ into_iter_items l.initial.island-iterator;
  kept : (R : Rule) (after : ℕ) (G : Generation) → All (IsIslandNow R G) l.fn.islands.items →
      All (IsTrail R after 0 G) l.trails.items;
}
