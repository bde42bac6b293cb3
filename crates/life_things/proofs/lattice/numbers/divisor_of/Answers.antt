use mir.Syntax.{w128}
use Rattle.std.proofs.Common.{ap, subst, ◌∙◌, rules}
use Rattle.std.specs.Int.{◌∣◌}
use Rattle.std.specs.Prelude.{unsigned_abs}
use Rattle.std.proofs.lemmas.Int.{to_z-of_z}
use Rattle.std.proofs.lemmas.Nat.Gcd.{dvd_trans}
use Rattle.life_things.specs.Lattice.Numbers.{DividesAll}
use Rattle.life_things.proofs.LatticeLemmas.Lowering.{some_common}
use Rattle.life_things.proofs.lattice.numbers.divisor_of.Goals as goal
use Rattle.life_things.proofs.lattice.numbers.divisor_of.Goals.{After-common_divisor}

divides : (c : After-common_divisor) → DividesAll c.common_divisor.result c.args.numbers
divides c = record {
  first =
      subst (λ n. c.common_divisor.result ∣ n)
      (c.unsigned_abs.ensures.value ∙ ap unsigned_abs (to_z-of_z w128 c.args.numbers.first (search rules)))
      (dvd_trans c.common_divisor.result c.common_divisor.ensures.0 c.common_divisor-front.ensures.0);
  second =
      subst (λ n. c.common_divisor.result ∣ n)
      (c.unsigned_abs-2.ensures.value ∙ ap unsigned_abs (to_z-of_z w128 c.args.numbers.second (search rules)))
      (dvd_trans c.common_divisor.result c.common_divisor.ensures.0 c.common_divisor-front.ensures.1);
  third =
      subst (λ n. c.common_divisor.result ∣ n)
      (c.unsigned_abs-3.ensures.value ∙ ap unsigned_abs (to_z-of_z w128 c.args.numbers.third (search rules)))
      (dvd_trans c.common_divisor.result c.common_divisor.ensures.1 c.common_divisor-back.ensures.0);
  fourth =
      subst (λ n. c.common_divisor.result ∣ n)
      (c.unsigned_abs-4.ensures.value ∙ ap unsigned_abs (to_z-of_z w128 c.args.numbers.fourth (search rules)))
      (dvd_trans c.common_divisor.result c.common_divisor.ensures.1 c.common_divisor-back.ensures.1);
}

pub returns-clause-divides : goal.returns-clause-divides
returns-clause-divides c = divides c

pub returns-clause-some : goal.returns-clause-some
returns-clause-some c = some_common c.common_divisor.result c.args.numbers (divides c) c.requires.some
