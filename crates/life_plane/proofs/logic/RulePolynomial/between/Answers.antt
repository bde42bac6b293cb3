use Rattle.std.proofs.Common.{ℕ, ◌+◌, ◌%◌, ◌<◌, slice_index, ap, ◌∙◌, arith}
use Rattle.std.specs.Int.{bit_at}
use Rattle.life_plane.proofs.Polynomials.{over}
use Rattle.life_plane.proofs.logic.RulePolynomial.between.Goals as goal

pub returns-clause-live : goal.returns-clause-live
returns-clause-live c = λ j n few.
    let past = c.loop-number-test.false in
    let inside : n < c.loop-number.number = omega arith in
    ap (λ (word : ℕ). (bit_at (slice_index c.args.dead.now n) j + bit_at word j) % 2) (c.loop-number.invariant.turn n inside)
    ∙ over (slice_index c.args.dead.now n) (slice_index c.args.live.now n) j
