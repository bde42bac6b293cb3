use Rattle.std.proofs.Common.{sym}
use Rattle.life_strays.proofs.trailing.some_tell.Goals as goal

pub returns-then-trail : goal.returns-then-trail
returns-then-trail c =
    (c.trail-item.result, (c.loop-trail.trail-index, c.loop-trail-test.true, sym c.trail-item.is), c.if-trail.true)
