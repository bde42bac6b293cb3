use Rattle.std.proofs.Common.{List, sym, subst}
use Rattle.std.proofs.lemmas.Result.{err_from_is_err_and}
use Rattle.std.specs.List.{All}
use Rattle.census_bundle.specs.Tickets.{IsTicketOf}
use Rattle.census_bundle.specs.declared.ticket.Ticket.{Ticket}
use Rattle.census_crew.proofs.Steps.{stops_after, stops_here}
use Rattle.census_crew.proofs.run_state.RunState.try_and_list.Goals as goal

pub returns-in_err-list_missing-clause-step : goal.returns-in_err-list_missing-clause-step
returns-in_err-list_missing-clause-step g c =
    let p = err_from_is_err_and c.from_residual.result c.from_residual.ensures.1 in
    rw p.1 (stops_here _ _)

pub try_each-requires-clause-of_bundle : goal.try_each-requires-clause-of_bundle
try_each-requires-clause-of_bundle g c =
    subst (λ (ts : List Ticket). All (IsTicketOf c.args.self.now.collector.bundle) ts) (sym c.as_slice.ensures.value) c.in_ok-list_missing.ensures.of_bundle

pub returns-in_err-list_missing-2-clause-step : goal.returns-in_err-list_missing-2-clause-step
returns-in_err-list_missing-2-clause-step g c =
    let p = err_from_is_err_and c.from_residual-in_err-list_missing-2.result c.from_residual-in_err-list_missing-2.ensures.1 in
    rw p.1 (stops_after _ _ _ _ _ c.in_ok-try_each.ensures.step (stops_here _ _))
