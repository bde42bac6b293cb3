use Rattle.std.proofs.Common.{◌≡◌, true, below_more, refl, arith}
use Rattle.life_islands.specs.Seats.{seat}
use Rattle.life_islands.proofs.seating.other_set.Goals as goal

pub loop-n-preserved : goal.loop-n-preserved
loop-n-preserved c =
    below_more (λ k. (seat c.args.seats.now k).live ≡ true → (seat c.args.seats.now k).set ≡ c.args.set) c.loop-n.n
    c.loop-n.invariant (c.is_other.ensures.no c.if-is_other.false)

pub returns-then-is_other-clause-some : goal.returns-then-is_other-clause-some
returns-then-is_other-clause-some c =
    let both = c.is_other.ensures.yes c.if-is_other.true in
    (both.1, c.loop-n.n, record { within = let h = c.loop-n-test.true in omega arith; live = both.0; is = refl })
