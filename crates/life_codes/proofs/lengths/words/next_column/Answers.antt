use Rattle.std.proofs.Common.{w64, arith}
use Rattle.std.proofs.lemmas.Nat.{shr-shr}
use Rattle.std.proofs.lemmas.Nat.Bits.{bit_at-trailing_zeros}
use Rattle.life_codes.proofs.lengths.words.next_column.Goals as goal

pub returns-clause-small : goal.returns-clause-small
returns-clause-small c = (bit_at-trailing_zeros w64 c.args.rest c.requires (omega arith)).0

pub returns-clause-live : goal.returns-clause-live
returns-clause-live c = (bit_at-trailing_zeros w64 c.args.rest c.requires (omega arith)).1

pub returns-clause-zeros : goal.returns-clause-zeros
returns-clause-zeros c = (bit_at-trailing_zeros w64 c.args.rest c.requires (omega arith)).2

pub returns-clause-rest : goal.returns-clause-rest
returns-clause-rest c = shr-shr c.args.rest _ 1
