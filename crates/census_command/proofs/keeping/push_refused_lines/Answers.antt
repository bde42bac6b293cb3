use Rattle.std.proofs.Common.{refl}
use Rattle.census_bundle.specs.declared.ticket.Ticket.{Ticket}
use Rattle.census_command.proofs.Kept.{next_refused}
use Rattle.census_command.proofs.keeping.push_refused_lines.Goals as goal

abbrev none : Ticket
none = record { folder = 0; number = 0 }

pub push_refused_line-requires : goal.push_refused_line-requires
push_refused_line-requires c = c.requires c.loop-i.i none c.loop-i-test.true

pub loop-i-preserved : goal.loop-i-preserved
loop-i-preserved c =
    next_refused c.args.bundle.now c.args.refused.now c.loop-i.i _ none _ _ _ c.loop-i-test.true refl c.in_ok-push_refused_line.ensures c.loop-i.invariant
