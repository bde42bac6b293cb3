use Rattle.census_command.proofs.entry_point.program.Goals as goal

pub returns-in-Ok-clause-outcome : goal.returns-in-Ok-clause-outcome
returns-in-Ok-clause-outcome g c = rw (c.in-Ok.is, c.from.ensures) c.dispatch_arguments-status.ensures.outcome

pub returns-in-Ok-clause-gate : goal.returns-in-Ok-clause-gate
returns-in-Ok-clause-gate g c = rw (c.in-Ok.is, c.from.ensures) c.dispatch_arguments-status.ensures.gate
