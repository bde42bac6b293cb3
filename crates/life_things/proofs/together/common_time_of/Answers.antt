use mir.Syntax.{w128}
use Rattle.std.proofs.Common.{sym, ap, subst, ◌∙◌, rules}
use Rattle.std.specs.Int.{◌∣◌}
use Rattle.std.specs.Prelude.{unsigned_abs}
use Rattle.std.proofs.lemmas.Int.{to_z-of_z}
use Rattle.std.proofs.lemmas.Nat.Gcd.{dvd_trans}
use Rattle.life_things.specs.Steps.{list_of}
use Rattle.life_things.specs.Times.{DividesTimes}
use Rattle.life_things.specs.declared.steps.Steps.{Steps}
use Rattle.life_things.proofs.together.common_time_of.Goals as goal

pub returns-in-Three : goal.returns-in-Three
returns-in-Three c =
    subst (λ (s : Steps). DividesTimes c.common_divisor.result (list_of s)) (sym c.in-Three.is) (
      dvd_trans c.common_divisor.result c.common_divisor.ensures.0 c.common_time-in-Three.ensures.0,
      (
        dvd_trans c.common_divisor.result c.common_divisor.ensures.0 c.common_time-in-Three.ensures.1.0,
        (
          subst (λ n. c.common_divisor.result ∣ n)
              (c.unsigned_abs-in-Three.ensures.value ∙ ap unsigned_abs (to_z-of_z w128 c.in-Three.c.0 (search rules)))
              c.common_divisor.ensures.1,
          tt,
        ),
      ),
    )

pub returns-in-Four : goal.returns-in-Four
returns-in-Four c =
    subst (λ (s : Steps). DividesTimes c.common_divisor-in-Four.result (list_of s)) (sym c.in-Four.is) (
      dvd_trans c.common_divisor-in-Four.result c.common_divisor-in-Four.ensures.0 c.common_time-in-Four.ensures.0,
      (
        dvd_trans c.common_divisor-in-Four.result c.common_divisor-in-Four.ensures.0 c.common_time-in-Four.ensures.1.0,
        (
          dvd_trans c.common_divisor-in-Four.result c.common_divisor-in-Four.ensures.1 c.common_time-in-Four-2.ensures.0,
          (
            dvd_trans c.common_divisor-in-Four.result c.common_divisor-in-Four.ensures.1 c.common_time-in-Four-2.ensures.1.0,
            tt,
          ),
        ),
      ),
    )
