use Rattle.std.proofs.Common.{◌-◌, ap, ◌∙◌, arith}
use Rattle.std.specs.Int.{bit_at}
use Rattle.std.proofs.lemmas.Nat.Bits.{bit_at-zero}
use Rattle.life_slots.proofs.Bits.{bit_from, first_bit}
use Rattle.life_slots.proofs.bands.Bands.first_from.Goals as goal

pub returns-then-rest-eq0-clause-between : goal.returns-then-rest-eq0-clause-between
returns-then-rest-eq0-clause-between c = λ k from small.
    bit_from c.args.self.bits c.from.result c.args.band k c.from.ensures from
    ∙ ap (λ w. bit_at w (k - c.args.band)) c.if-rest-eq0.true ∙ bit_at-zero (k - c.args.band)

pub returns-else-rest-eq0-clause-small : goal.returns-else-rest-eq0-clause-small
returns-else-rest-eq0-clause-small c =
    let first = first_bit c.args.self.bits c.from.result c.args.band c.from.ensures (omega arith) c.if-rest-eq0.false in
    omega (arith, first.small)

pub returns-else-rest-eq0-clause-marked : goal.returns-else-rest-eq0-clause-marked
returns-else-rest-eq0-clause-marked c = λ small.
    (first_bit c.args.self.bits c.from.result c.args.band c.from.ensures (omega arith) c.if-rest-eq0.false).marked

pub returns-else-rest-eq0-clause-between : goal.returns-else-rest-eq0-clause-between
returns-else-rest-eq0-clause-between c =
    (first_bit c.args.self.bits c.from.result c.args.band c.from.ensures (omega arith) c.if-rest-eq0.false).between
