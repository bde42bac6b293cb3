use Rattle.std.proofs.Common.{ℕ, ◌<◌, ◌≤◌}
use Rattle.life_model.specs.Rule.{Rule}
use Rattle.life_apart.specs.Onsets.Since.{AreApartCourses, IsMoverApartFrom, IsNeeded}
use Rattle.life_apart.proofs.onsets.since.all_apart_since.Given as goal

-- each set so far that moves is apart from all others since then
abbrev pub invariant-loop-place : goal.invariant-loop-place
invariant-loop-place l = record {
  apart : (R : Rule) → AreApartCourses R l.parts → (i : ℕ) → i < l.place → IsMoverApartFrom R l.age l.parts l.since i;
  needed : (R : Rule) → AreApartCourses R l.parts → IsNeeded R l.age l.parts l.since;
  within : l.since ≤ l.age;
}
