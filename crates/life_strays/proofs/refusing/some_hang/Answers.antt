use Rattle.std.proofs.Common.{sym}
use Rattle.life_strays.proofs.refusing.some_hang.Goals as goal

pub returns-then-hang_on_one : goal.returns-then-hang_on_one
returns-then-hang_on_one c =
    let one = c.if-hang_on_one.ensures in (
      one.0,
      one.1,
      c.later-item.result,
      (c.loop-later.later-index, c.loop-later-test.true, sym c.later-item.is),
      one.2,
      one.3,
      one.4,
    )
