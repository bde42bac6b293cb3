use Rattle.std.proofs.Common.{sym, ap, ◌∙◌, arith}
use Rattle.std.specs.Int.{bit_at}
use Rattle.life_plane.specs.Bits.{next_state}
use Rattle.life_plane.specs.Numbers.{number_at}
use Rattle.life_plane.proofs.LifeCases.{life_at}
use Rattle.life_plane.proofs.logic.LifeBranch.next.Goals as goal

pub returns : goal.returns
returns c = λ rule is j below few.
    life_at c.half_adder-outer.result.ones c.half_adder-outer.result.twos c.half_adder-inner.result.ones c.half_adder-inner.result.twos
    c.args.count.ones c.args.here c.args.count.above c.args.count.below c.args.count.beside c.args.count.carried j
    (omega arith) (omega arith) below (c.half_adder-outer.ensures j) (c.half_adder-inner.ensures j)
    ∙ ap (λ r. next_state r (bit_at c.args.here j) (number_at c.args.count j)) (sym is)
