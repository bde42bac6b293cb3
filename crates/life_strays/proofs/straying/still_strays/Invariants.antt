use Rattle.std.proofs.Common.{◌≡◌, ℕ, ◌+◌, ◌++◌}
use Rattle.std.specs.List.{All}
use Rattle.std.specs.Vec.Iter.{into_iter_items}
use Rattle.life_model.specs.Evolution.{generation}
use Rattle.life_model.specs.Generation.{Generation}
use Rattle.life_model.specs.Rule.{Rule}
use Rattle.life_strays.specs.Strays.{IsStray}
use Rattle.life_strays.proofs.straying.still_strays.Given as goal

abbrev pub invariant-loop-stray : goal.invariant-loop-stray
invariant-loop-stray g l = record {
  order : l.yielded ++ into_iter_items l.stray-iterator ≡ into_iter_items l.initial.stray-iterator;
  kept : (R : Rule) (n : ℕ) (G : Generation) → l.number ≡ n + 1 →
      g.P.Plane.members l.plane ≡ generation R G (n + 1) →
      All (IsStray R l.bound n G) l.fn.strays.items → All (IsStray R l.bound (n + 1) G) l.left.items;
}
