use Rattle.std.proofs.Common.{sym, ap, ◌∙◌}
use Rattle.std.proofs.lemmas.Nat.Bits.{bit_at_ones, bit_at-zero}
use Rattle.life_plane.specs.Flags.{as_bit}
use Rattle.life_plane.proofs.answers.word_of.Goals as goal

pub returns-then-answer : goal.returns-then-answer
returns-then-answer c = λ j below. bit_at_ones 64 j below ∙ sym (ap as_bit c.if-answer.true)

pub returns-else-answer : goal.returns-else-answer
returns-else-answer c = λ j below. bit_at-zero j ∙ sym (ap as_bit c.if-answer.false)
