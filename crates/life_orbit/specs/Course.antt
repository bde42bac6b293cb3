-- A set that recurs, as contracts see it.
use Rattle.std.specs.Prelude.{ℕ, ◌≤◌, refl}
use Rattle.std.specs.Coded.{Coded, code_by, coded×, coded_ℕ, coded_ℤ}
use Rattle.life_model.specs.Cell.{Cell}
use Rattle.life_model.specs.Coded.{coded_generation, coded_rule}
use Rattle.life_model.specs.Generation.{Generation}
use Rattle.life_model.specs.Recurrence.{RecursBy}
use Rattle.life_model.specs.Rule.{Rule}

-- the rule, the set, the number of steps after which it first recurs, and its displacement then
pub record Course : Type 0 where
  pub rule : Rule
  pub set : Generation
  pub period : ℕ
  pub displacement : Cell

-- coded by its fields
abbrev pub coded_course : Coded Course
coded_course =
    code_by (Rule × (Generation × (ℕ × Cell)))
    (coded× coded_rule (coded× coded_generation (coded× coded_ℕ (coded× coded_ℤ coded_ℤ))))
    (λ c. (c.rule, (c.set, (c.period, c.displacement))))
    (λ p. record { rule = p.0; set = p.1.0; period = p.1.1.0; displacement = p.1.1.1 }) (λ _. refl)

-- The set recurs in this way, and not earlier.
pub record IsCourse (c : Course) : Type 0 where
  pub recurs : RecursBy c.rule c.set c.period c.displacement
  pub least : (n : ℕ) (d : Cell) → RecursBy c.rule c.set n d → c.period ≤ n
