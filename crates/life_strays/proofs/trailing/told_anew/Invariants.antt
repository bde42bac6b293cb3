use Rattle.std.proofs.Common.{◌≡◌, ℕ, ◌≤◌, ◌++◌}
use Rattle.std.specs.List.{All}
use Rattle.std.specs.Vec.Iter.{into_iter_items}
use Rattle.life_model.specs.Generation.{Generation}
use Rattle.life_model.specs.Rule.{Rule}
use Rattle.life_strays.specs.Strays.{IsTrail}
use Rattle.life_strays.proofs.trailing.told_anew.Given as goal

abbrev pub invariant-loop-trail : goal.invariant-loop-trail
invariant-loop-trail l = record {
  order : l.yielded ++ into_iter_items l.trail-iterator ≡ into_iter_items l.initial.trail-iterator;
  kept : (R : Rule) (after later n : ℕ) (G : Generation) → n ≤ later → All (IsTrail R after n G) l.fn.trails.items →
      All (IsTrail R later n G) l.anew.items;
}
