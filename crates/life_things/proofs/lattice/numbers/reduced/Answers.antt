use Rattle.std.proofs.Common.{pos, sym, ap, subst, ◌∙◌, arith}
use Rattle.std.specs.Int.{◌∣◌}
use Rattle.std.specs.Prelude.{unsigned_abs}
use Rattle.std.proofs.Math.IntN.{◌*ℤ◌}
use Rattle.life_things.specs.Lattice.Numbers.{number_limit}
use Rattle.life_things.proofs.LatticeLemmas.Lowering.{lighter_by}
use Rattle.life_things.proofs.LatticeLemmas.Within.{read_back}
use Rattle.life_things.proofs.lattice.numbers.reduced.Goals as goal

pub divided-requires-clause-divides : goal.divided-requires-clause-divides
divided-requires-clause-divides c =
    subst (λ z. c.divisor_of-divisor.result ∣ unsigned_abs z)
    (sym (read_back number_limit c.args.numbers.first (omega arith) c.requires.few.first)) c.divisor_of-divisor.ensures.divides.first

pub divided-requires-2-clause-divides : goal.divided-requires-2-clause-divides
divided-requires-2-clause-divides c =
    subst (λ z. c.divisor_of-divisor.result ∣ unsigned_abs z)
    (sym (read_back number_limit c.args.numbers.second (omega arith) c.requires.few.second)) c.divisor_of-divisor.ensures.divides.second

pub divided-requires-3-clause-divides : goal.divided-requires-3-clause-divides
divided-requires-3-clause-divides c =
    subst (λ z. c.divisor_of-divisor.result ∣ unsigned_abs z)
    (sym (read_back number_limit c.args.numbers.third (omega arith) c.requires.few.third)) c.divisor_of-divisor.ensures.divides.third

pub divided-requires-4-clause-divides : goal.divided-requires-4-clause-divides
divided-requires-4-clause-divides c =
    subst (λ z. c.divisor_of-divisor.result ∣ unsigned_abs z)
    (sym (read_back number_limit c.args.numbers.fourth (omega arith) c.requires.few.fourth)) c.divisor_of-divisor.ensures.divides.fourth

pub returns-clause-lighter : goal.returns-clause-lighter
returns-clause-lighter c =
    lighter_by c.divisor_of-divisor.result _ c.args.numbers c.divisor_of-divisor.ensures.some (record {
      first = sym (read_back number_limit c.args.numbers.first (omega arith) c.requires.few.first) ∙ c.divided.ensures.whole
          ∙ ap (λ z. pos c.divisor_of-divisor.result *ℤ z)
          (sym (read_back number_limit c.divided.result (omega arith) c.divided.ensures.few));
      second = sym (read_back number_limit c.args.numbers.second (omega arith) c.requires.few.second) ∙ c.divided-2.ensures.whole
          ∙ ap (λ z. pos c.divisor_of-divisor.result *ℤ z)
          (sym (read_back number_limit c.divided-2.result (omega arith) c.divided-2.ensures.few));
      third = sym (read_back number_limit c.args.numbers.third (omega arith) c.requires.few.third) ∙ c.divided-3.ensures.whole
          ∙ ap (λ z. pos c.divisor_of-divisor.result *ℤ z)
          (sym (read_back number_limit c.divided-3.result (omega arith) c.divided-3.ensures.few));
      fourth = sym (read_back number_limit c.args.numbers.fourth (omega arith) c.requires.few.fourth) ∙ c.divided-4.ensures.whole
          ∙ ap (λ z. pos c.divisor_of-divisor.result *ℤ z)
          (sym (read_back number_limit c.divided-4.result (omega arith) c.divided-4.ensures.few));
    })
