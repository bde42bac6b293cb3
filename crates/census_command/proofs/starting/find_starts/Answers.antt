use Rattle.std.proofs.Common.{inl, inr, refl}
use Rattle.census_command.proofs.starting.find_starts.Goals as goal

pub returns-in-Err-clause-fails : goal.returns-in-Err-clause-fails
returns-in-Err-clause-fails g c = rw (← c.streams.view_is) (inl (c.in-Err.ensures, refl))

pub returns-in-Ok-write_starts-clause-done : goal.returns-in-Ok-write_starts-clause-done
returns-in-Ok-write_starts-clause-done g c = rw (← c.streams.view_is) (c.in-Ok.bundle, c.in-Ok.ensures, c.in-Ok-write_starts.ensures.writes)

pub returns-clause-fails : goal.returns-clause-fails
returns-clause-fails g c =
    rw (c.running.ensures, ← c.streams.view_is)
    (inr (c.in-Ok.bundle, c.in-Ok.ensures, c.in-Err-write_starts.fault, refl, c.in-Err-write_starts.ensures.failed))
