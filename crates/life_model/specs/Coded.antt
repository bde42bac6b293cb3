-- Rules and generations as values that contracts see.
use Rattle.std.specs.Prelude.{ℕ, refl}
use Rattle.std.specs.FinMap as finmap
use Rattle.std.specs.Coded.{Coded, code_by, coded×, coded_ℕ, coded_ℤ}
use base.Stored.{coded_unit}
use Rattle.life_model.specs.Generation.{Generation}
use Rattle.life_model.specs.Rule.{Rule}

-- a rule, as a pair of numbers
abbrev pub coded_rule : Coded Rule
coded_rule = code_by (ℕ × ℕ) (coded× coded_ℕ coded_ℕ) (λ r. (r.birth, r.survival)) (λ p. record { birth = p.0; survival = p.1 }) (λ _. refl)

abbrev pub coded_generation : Coded Generation
coded_generation = finmap.code (coded× coded_ℤ coded_ℤ) coded_unit
