use Rattle.std.proofs.Common.{◌≡◌, ℕ, ◌+◌, ◌++◌}
use Rattle.std.specs.List.{All}
use Rattle.std.specs.Option.{IfSome}
use Rattle.std.specs.Vec.Iter.{into_iter_items}
use Rattle.life_model.specs.Evolution.{generation}
use Rattle.life_model.specs.Rule.{Rule}
use Rattle.life_strays.specs.Strays.{IsTrail}
use Rattle.life_strays.proofs.trailing.next_trails.Given as goal

abbrev pub invariant-loop-trail : goal.invariant-loop-trail
invariant-loop-trail g l = record {
  order : l.yielded ++ into_iter_items l.trail-iterator ≡ into_iter_items l.initial.trail-iterator;
  listed : IfSome l.listed (λ list. list ≡ g.P.Plane.members l.later);
  kept : (R : Rule) (n : ℕ) → l.number ≡ n + 1 →
      g.P.Plane.members l.later ≡ generation R (g.P.Plane.members l.start) (n + 1) →
      All (IsTrail R l.after n (g.P.Plane.members l.start)) l.fn.trails.items →
      All (IsTrail R l.after (n + 1) (g.P.Plane.members l.start)) l.left.items;
}
