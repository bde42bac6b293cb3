use Rattle.std.proofs.Common.{◌≡◌, ◌≢◌, ◌^◌, ◌<◌, ◌/◌, arith}
use Rattle.life_slots.proofs.RimLemmas.{middle_set, last_set}
use Rattle.life_slots.proofs.rim.has_at_side.Goals as goal

pub returns-in-1-clause-set : goal.returns-in-1-clause-set
returns-in-1-clause-set c = λ test.
    let fits : c.args.bits < 2 ^ 64 = omega arith in
    let some : c.args.bits ≢ 0 = grind arith in
    middle_set c.args.bits c.args.side c.in-1.is fits some

pub returns-in_default-clause-set : goal.returns-in_default-clause-set
returns-in_default-clause-set c = λ test.
    let fits : c.args.bits < 2 ^ 64 = omega arith in
    let two : c.args.side ≡ 2 = grind arith in
    let one : c.args.bits / 9223372036854775808 ≡ 1 = grind arith in
    last_set c.args.bits c.args.side two fits one
