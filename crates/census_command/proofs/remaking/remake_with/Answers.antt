use Rattle.std.proofs.Common.{inr, refl}
use Rattle.census_command.proofs.remaking.remake_with.Goals as goal

pub returns-in-Err : goal.returns-in-Err
returns-in-Err g c =
    rw (← c.streams.view_is)
    (inr (record {
      fault = c.in-Err.fault;
      status_is = c.stop_at_file.ensures.status;
      why = c.in-Err.ensures.fault;
      unwritten = refl;
      told = c.stop_at_file.ensures.told;
    }))
