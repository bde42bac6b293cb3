use Rattle.std.proofs.Common.{ℕ, ◌<◌}
use Rattle.std.specs.List.{All}
use Rattle.life_model.specs.Rule.{Rule}
use Rattle.life_apart.specs.Sets.{IsCourseBy}
use Rattle.life_apart.specs.Spans.{ArePlacesApart}
use Rattle.life_apart.proofs.sweep.is_apart_from_others.Given as goal

-- the set is apart from those so far
abbrev pub invariant-loop-other : goal.invariant-loop-other
invariant-loop-other l =
    (R : Rule) → All (IsCourseBy R) l.orbits → (j : ℕ) → j < l.other → ArePlacesApart R l.orbits l.place j
