use Rattle.std.proofs.Common.{List, Some, slice_get, subst}
use Rattle.census_bundle.specs.declared.ticket.Ticket.{Ticket}
use Rattle.census_crew.proofs.Lost.{first_may_tell}
use Rattle.census_crew.proofs.keeping.copy_or_clear.Goals as goal

pub returns-in-Err-clause-told : goal.returns-in-Err-clause-told
returns-in-Err-clause-told c =
    first_may_tell c.args.bundle.now c.args.lost.now.items c.as_slice-in-Err.result.now c.first_of-first.result c.as_slice-in-Err.ensures.value c.first_of-first.ensures c.requires.of_bundle
