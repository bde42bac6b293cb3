use Rattle.std.proofs.Common.{arith}
use Rattle.std.proofs.lemmas.Int.{ints}
use Rattle.life_find.proofs.missing.is_far_across.Goals as goal

pub returns-then-x-other : goal.returns-then-x-other
returns-then-x-other c so near =
    let past = c.if-x-other.true in
    let inside = near.right in
    let most = c.requires.most in
    omega (arith, ints)

pub returns-then-x-far : goal.returns-then-x-far
returns-then-x-far c so near =
    let past = c.if-x-far.true in
    let inside = near.left in
    let most = c.requires.most in
    omega (arith, ints)
