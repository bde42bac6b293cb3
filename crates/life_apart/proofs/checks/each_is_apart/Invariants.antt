use Rattle.std.proofs.Common.{ℕ, ◌<◌, slice_index_or}
use Rattle.std.specs.List.{All}
use Rattle.life_model.specs.Rule.{Rule}
use Rattle.life_objects.specs.Apart.{AreApartForEver}
use Rattle.life_orbit.specs.Course.{Course}
use Rattle.life_apart.specs.Sets.{IsCourseBy}
use Rattle.life_apart.proofs.checks.each_is_apart.Given as goal

-- any two of the sets so far stay apart for ever
abbrev pub invariant-loop-n : goal.invariant-loop-n
invariant-loop-n l = (R : Rule) → All (IsCourseBy R) l.orbits → (i j : ℕ) (e : Course) → i < j → j < l.n →
    AreApartForEver R (slice_index_or l.orbits i e).set (slice_index_or l.orbits j e).set
