use Rattle.std.proofs.Common.{◌≡◌, ◌∙◌, arith}
use Rattle.std.specs.Int.{bit_at}
use Rattle.std.proofs.lemmas.Nat.Bits.{bit_at_and}
use Rattle.life_model.specs.Cell.{origin}
use Rattle.life_tile.proofs.Listed.{no_bit, no_bit_told}
use Rattle.life_tile.proofs.standing.may_stand_in_row.Goals as goal

pub returns-then-left-eq0 : goal.returns-then-left-eq0
returns-then-left-eq0 c = λ told. record {
  none = λ j d inside one led all. no_bit _ j c.if-left-eq0.true (c.loop-n.invariant j d inside one led all);
}

pub loop-n-preserved : goal.loop-n-preserved
loop-n-preserved c = λ j d inside one led all.
    let here : bit_at c.live_beside-left.result j ≡ 1 = c.live_beside-left.ensures j d inside led (all c.loop-n.n origin c.loop-n-test.true) in
    let before = c.loop-n.invariant j d inside one led all in
    bit_at_and c.loop-n.left c.live_beside-left.result j ∙ omega arith

pub returns-then-left-eq0-2 : goal.returns-then-left-eq0-2
returns-then-left-eq0-2 c = λ told. record {
  none = λ j d inside one led all. no_bit _ j c.if-left-eq0-2.true (c.loop-n-2.invariant j d inside one led all);
}

pub loop-n-2-preserved : goal.loop-n-2-preserved
loop-n-2-preserved c = λ j d inside one led all.
    let here : bit_at c.live_beside-left-in-loop-n-2.result j ≡ 1 = c.live_beside-left-in-loop-n-2.ensures j d inside led (all c.loop-n-2.n origin (omega (arith, c.loop-n-2-test.true, c.requires.lead))) in
    let before = c.loop-n-2.invariant j d inside one led all in
    bit_at_and c.loop-n-2.left c.live_beside-left-in-loop-n-2.result j ∙ omega arith

pub returns : goal.returns
returns c = λ told. record {
  none = λ j d inside one led all. no_bit_told _ j told (c.loop-n-2.invariant j d inside one led all);
}
