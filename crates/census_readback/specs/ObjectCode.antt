-- How a proof tells objects apart.
use Rattle.std.specs.Prelude.{ℕ, List, refl}
use Rattle.std.specs.Coded.{Coded, code_by, coded×, coded_ℕ, coded_list}
use Rattle.census_readback.specs.Counts.{Object}

-- as the pair of its fields
abbrev pub object_code : Coded Object
object_code =
    code_by (List ℕ × List ℕ) (coded× (coded_list coded_ℕ) (coded_list coded_ℕ)) (λ k. (k.rule, k.code)) (λ p. record { rule = p.0; code = p.1 }) (λ _. refl)
