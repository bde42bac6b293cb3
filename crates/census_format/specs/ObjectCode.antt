-- The code by which proofs distinguish objects.
use Rattle.std.specs.Prelude.{ℕ, List, refl}
use Rattle.std.specs.Coded.{Coded, code_by, coded×, coded_ℕ, coded_list}
use Rattle.life_model.specs.Coded.{coded_rule}
use Rattle.life_model.specs.Rule.{Rule}
use Rattle.census_format.specs.Objects.{Object}

-- coded as the pair of its fields
abbrev pub object_code : Coded Object
object_code =
    code_by (Rule × List ℕ) (coded× coded_rule (coded_list coded_ℕ)) (λ k. (k.rule, k.code)) (λ p. record { rule = p.0; code = p.1 }) (λ _. refl)
