use Rattle.std.proofs.Common.{refl, sym, true≢false, arith}
use Rattle.life_orbit.proofs.Clearances.{between_more}
use Rattle.life_orbit.proofs.orbit.Orbit.is_apart_for_ever_from.Goals as goal

pub loop-time-preserved : goal.loop-time-preserved
loop-time-preserved c =
    between_more c.args.self.now.rule c.args.self.now.set c.args.other.now.set c.watch-span.result.from c.loop-time.time
    c.loop-time.invariant (c.if-not-is_apart_at.ensures.0 refl)

pub returns-then-not-is_apart_at : goal.returns-then-not-is_apart_at
returns-then-not-is_apart_at c = (
  λ t. absurd (true≢false (sym t)),
  λ ever. c.if-not-is_apart_at.ensures.1 (ever c.loop-time.time),
)

pub returns : goal.returns
returns c = (
  λ t. c.watch-span.ensures.enough (λ m late early. c.loop-time.invariant m late (omega arith)),
  λ ever. refl,
)
