use mir.Syntax.{w128}
use Rattle.std.proofs.Common.{ap, subst, ◌∙◌, rules}
use Rattle.std.specs.Int.{◌∣◌}
use Rattle.std.specs.Prelude.{unsigned_abs}
use Rattle.std.proofs.lemmas.Int.{to_z-of_z}
use Rattle.life_things.proofs.together.common_time.Goals as goal

pub returns : goal.returns
returns c = (
  subst (λ n. c.common_divisor.result ∣ n)
      (c.unsigned_abs.ensures.value ∙ ap unsigned_abs (to_z-of_z w128 c.args.first.0 (search rules)))
      c.common_divisor.ensures.0,
  (
    subst (λ n. c.common_divisor.result ∣ n)
        (c.unsigned_abs-2.ensures.value ∙ ap unsigned_abs (to_z-of_z w128 c.args.second.0 (search rules)))
        c.common_divisor.ensures.1,
    tt,
  ),
)
