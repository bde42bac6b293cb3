use Rattle.std.proofs.Common.{sym}
use Rattle.life_strays.proofs.refusing.hang_on_one.Goals as goal

pub returns-then-meet : goal.returns-then-meet
returns-then-meet c =
    let one = c.if-meet.ensures in
    (c.stray-item.result, (c.loop-stray.stray-index, c.loop-stray-test.true, sym c.stray-item.is), one.0, one.2, one.1)
