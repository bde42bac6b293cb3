use Rattle.std.proofs.Common.{ℕ, ◌<◌}
use Rattle.std.specs.List.{All}
use Rattle.life_model.specs.Rule.{Rule}
use Rattle.life_apart.specs.Sets.{IsCourseBy}
use Rattle.life_apart.specs.Spans.{IsApartFromLater}
use Rattle.life_apart.proofs.sweep.are_apart_in_order.Given as goal

-- the sets of the spans so far stay apart for ever from the near ones after them
abbrev pub invariant-loop-n : goal.invariant-loop-n
invariant-loop-n l = (R : Rule) → All (IsCourseBy R) l.orbits → (n : ℕ) → n < l.n → IsApartFromLater R l.orbits l.spans n
