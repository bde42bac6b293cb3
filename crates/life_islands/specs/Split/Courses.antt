-- The orbits of parts.
use Rattle.std.specs.Prelude.{◌≡◌, ℕ, ◌≤◌}
use Rattle.life_model.specs.Rule.{Rule}
use Rattle.life_orbit.specs.Course.{Course, IsCourse}

-- the set recurs by this rule, with its least period, which is at most b generations
pub record IsCourseWithin (R : Rule) (b : ℕ) (o : Course) : Type 0 where
  pub rule : o.rule ≡ R
  pub recurs : IsCourse o
  pub period : o.period ≤ b
