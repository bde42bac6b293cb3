use Rattle.std.proofs.Common.{◌≡◌, List, slice_index_or, sym, subst}
use Rattle.std.proofs.lemmas.Result.{err_from_is_err_and}
use Rattle.census_bundle.specs.Tickets.{IsTicketOf}
use Rattle.census_bundle.specs.declared.bundle.Folder.{Folder}
use Rattle.census_bundle.specs.declared.ticket.Ticket.{Ticket}
use Rattle.census_crew.proofs.Steps.{stops_after}
use Rattle.census_crew.proofs.run_state.RunState.try_each.Goals as goal

pub try_missing-requires-clause-of_bundle : goal.try_missing-requires-clause-of_bundle
try_missing-requires-clause-of_bundle g c =
    let none : Ticket = record { folder = 0; number = 0 } in
    subst (λ (b : List Folder). IsTicketOf b (slice_index_or c.args.tickets.now c.loop-i.i none)) (sym c.loop-i.invariant.step.same_bundle)
    (c.requires.of_bundle c.loop-i.i none c.loop-i-test.true)

pub returns-in_err-try_missing-clause-step : goal.returns-in_err-try_missing-clause-step
returns-in_err-try_missing-clause-step g c =
    let p = err_from_is_err_and c.from_residual.result c.from_residual.ensures.1 in
    rw p.1 (stops_after _ _ _ _ _ c.loop-i.invariant.step c.in_err-try_missing.ensures.step)
