use Rattle.std.proofs.Common.{sym, ap, ◌∙◌}
use Rattle.census_bundle.specs.Tickets.{folder_of, number_in_folder, has_ticket}
use Rattle.census_book.specs.Progress.{Arrived}
use Rattle.census_book.proofs.TicketSets.{has_other, has_at}
use Rattle.census_book.proofs.arrival.Arrival.holds.Goals as goal

pub returns-then-ticket-own : goal.returns-then-ticket-own
returns-then-ticket-own c =
    c.holds.ensures ∙ sym (has_other _ c.self.inside.done.now.ticket c.args.ticket (λ e. c.if-ticket-own.true (ap folder_of (e ∙ sym c.ticket-own.ensures))))
    ∙ ap (λ (r : Arrived). has_ticket r.taken c.args.ticket) c.self.view_is

pub returns-then-ticket-own-2 : goal.returns-then-ticket-own-2
returns-then-ticket-own-2 c =
    c.holds-then-ticket-own-2.ensures ∙ sym (has_other _ c.self.inside.done.now.ticket c.args.ticket (λ e. c.if-ticket-own-2.true (ap number_in_folder (e ∙ sym c.ticket-own.ensures))))
    ∙ ap (λ (r : Arrived). has_ticket r.taken c.args.ticket) c.self.view_is

pub returns : goal.returns
returns c =
    sym (has_at c.self.inside.results.now.taken c.self.inside.done.now.ticket c.args.ticket (c.if-ticket-own.false ∙ ap folder_of c.ticket-own.ensures) (c.if-ticket-own-2.false ∙ ap number_in_folder c.ticket-own.ensures))
    ∙ ap (λ (r : Arrived). has_ticket r.taken c.args.ticket) c.self.view_is
