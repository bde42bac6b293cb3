use Rattle.std.proofs.Common.{◌≡◌, ◌<◌, List, length, ap, sym, subst, ◌∙◌, arith}
use Rattle.census_bundle.specs.declared.ticket.Ticket.{Ticket}
use Rattle.census_crew.specs.Losing.{Misses}
use Rattle.census_crew.proofs.Lost.{misses_more, ticket_here}
use Rattle.census_crew.proofs.losing.push_missing_of.Goals as goal

pub loop-i-preserved : goal.loop-i-preserved
loop-i-preserved c =
    let size : length c.as_slice-entries.result.now ≡ length c.args.folder.now.entries = ap length c.as_slice-entries.ensures in
    let within : c.loop-i.i < length c.args.folder.now.entries = omega arith in
    subst (λ (ts : List Ticket). Misses c.args.collector.now.bundle c.args.collector.now.taken ts) (sym c.in_ok-push.ensures.items)
    (misses_more _ _ _ _ (ticket_here _ c.args.c c.loop-i.i c.args.folder.now c.requires.at within) (sym c.holds.ensures ∙ c.if-holds.false) c.loop-i.invariant)
