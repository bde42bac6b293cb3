-- Generations of a pattern that are kept.
use Rattle.std.specs.Prelude.{◌≡◌, ℕ, refl}
use Rattle.std.specs.Coded.{Coded, code_by, coded×, coded_ℕ}
use Rattle.life_model.specs.Coded.{coded_generation}
use Rattle.life_model.specs.Evolution.{generation}
use Rattle.life_model.specs.Generation.{Generation}
use Rattle.life_model.specs.Rule.{Rule}

-- a set of cells, and its number among the generations of a pattern
pub record Moment : Type 0 where
  pub cells : Generation
  pub number : ℕ

-- coded as a pair
abbrev pub coded_moment : Coded Moment
coded_moment =
    code_by (Generation × ℕ) (coded× coded_generation coded_ℕ) (λ m. (m.cells, m.number))
    (λ p. record { cells = p.0; number = p.1 }) (λ _. refl)

-- the moment is the generation of G that has its number
abbrev pub IsMomentOf : Rule → Generation → Moment → Type 0
IsMomentOf R G m = m.cells ≡ generation R G m.number
