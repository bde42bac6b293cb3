use Rattle.std.proofs.Common.{sym, ap, ◌∙◌}
use Rattle.census_bundle.specs.Tickets.{has_ticket}
use Rattle.census_book.specs.Progress.{Taken}
use Rattle.census_book.proofs.Rows.{has_result}
use Rattle.census_book.proofs.results.Results.holds.Goals as goal

pub returns : goal.returns
returns c =
    c.holds.ensures ∙ sym (has_result c.self.inside.slots c.args.ticket)
    ∙ ap (λ (r : Taken). has_ticket r.taken c.args.ticket) c.self.view_is
