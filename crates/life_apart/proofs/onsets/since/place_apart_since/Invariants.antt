use Rattle.std.proofs.Common.{ℕ, ◌<◌, ◌≤◌}
use Rattle.life_model.specs.Rule.{Rule}
use Rattle.life_apart.specs.Onsets.Since.{AreApartCourses, ArePlacesApartFrom, IsNeeded}
use Rattle.life_apart.proofs.onsets.since.place_apart_since.Given as goal

-- the set is apart from those so far since then
abbrev pub invariant-loop-other : goal.invariant-loop-other
invariant-loop-other l = record {
  apart : (R : Rule) → AreApartCourses R l.parts → (j : ℕ) → j < l.other →
      ArePlacesApartFrom R l.age l.parts l.since l.place j;
  needed : (R : Rule) → AreApartCourses R l.parts → IsNeeded R l.age l.parts l.since;
  within : l.since ≤ l.age;
}
