use Rattle.std.proofs.Common.{refl}
use Rattle.census_command.proofs.dispatching.conclude.Goals as goal

pub returns-in-Ok : goal.returns-in-Ok
returns-in-Ok g c = rw c.in-Ok.is (refl, c.tell_if.ensures)

pub returns-in-Err : goal.returns-in-Err
returns-in-Err g c = rw c.in-Err.is (c.stop_saying.ensures.status, c.stop_saying.ensures.lines)
