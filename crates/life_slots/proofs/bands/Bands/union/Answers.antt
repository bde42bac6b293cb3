use Rattle.std.proofs.lemmas.Nat.Bits.{bit_at_or}
use Rattle.life_slots.proofs.bands.Bands.union.Goals as goal

pub returns : goal.returns
returns c = bit_at_or c.args.self.bits c.args.others.bits
