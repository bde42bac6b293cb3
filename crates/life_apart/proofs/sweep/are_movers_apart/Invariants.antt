use Rattle.std.proofs.Common.{ℕ, ◌<◌}
use Rattle.std.specs.List.{All}
use Rattle.life_model.specs.Rule.{Rule}
use Rattle.life_apart.specs.Sets.{IsCourseBy}
use Rattle.life_apart.specs.Spans.{IsStillOrApart}
use Rattle.life_apart.proofs.sweep.are_movers_apart.Given as goal

-- of the sets so far, those that move stay apart from all others
abbrev pub invariant-loop-place : goal.invariant-loop-place
invariant-loop-place l = (R : Rule) → All (IsCourseBy R) l.orbits → (i : ℕ) → i < l.place → IsStillOrApart R l.orbits i
