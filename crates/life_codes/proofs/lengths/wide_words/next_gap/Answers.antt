use Rattle.std.proofs.Common.{◌<◌, w64, subst, sym, arith}
use Rattle.std.proofs.lemmas.Nat.Bits.{bit_at-trailing_ones}
use Rattle.life_codes.proofs.lengths.wide_words.next_gap.Goals as goal

pub returns-clause-small : goal.returns-clause-small
returns-clause-small c = subst (λ n. n < 64) (sym c.trailing_ones-ones.ensures) (bit_at-trailing_ones w64 c.args.rest (omega arith)).0

pub returns-clause-ones : goal.returns-clause-ones
returns-clause-ones c = λ i h. (bit_at-trailing_ones w64 c.args.rest (omega arith)).2 i (subst (λ n. i < n) c.trailing_ones-ones.ensures h)
