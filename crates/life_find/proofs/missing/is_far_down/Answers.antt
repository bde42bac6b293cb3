use Rattle.std.proofs.Common.{arith}
use Rattle.std.proofs.lemmas.Int.{ints}
use Rattle.life_find.proofs.missing.is_far_down.Goals as goal

pub returns-then-y-other : goal.returns-then-y-other
returns-then-y-other c so near =
    let past = c.if-y-other.true in
    let inside = near.below in
    let most = c.requires.most in
    omega (arith, ints)

pub returns-then-y-far : goal.returns-then-y-far
returns-then-y-far c so near =
    let past = c.if-y-far.true in
    let inside = near.above in
    let most = c.requires.most in
    omega (arith, ints)
