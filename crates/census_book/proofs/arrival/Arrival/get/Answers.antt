use Rattle.std.proofs.Common.{◌≡◌, true, sym, subst, ap, ◌∙◌}
use Rattle.census_bundle.specs.Tickets.{has_ticket}
use Rattle.census_book.specs.Collecting.{IsResult}
use Rattle.census_book.specs.Progress.{Arrived}
use Rattle.census_book.proofs.Kept.{chosen, own_result}
use Rattle.census_book.proofs.arrival.Arrival.get.Goals as goal

pub returns : goal.returns
returns c =
    let own = c.self.inside.done.now in
    let has = subst (λ (a : Arrived). has_ticket a.taken c.args.ticket ≡ true) (sym c.self.view_is) c.requires.taken in
    let same : c.args.ticket.folder ≡ own.ticket.folder = c.requires.own ∙ ap (λ (a : Arrived). a.folder) (sym c.self.view_is) in
    let kept = chosen (λ d. IsResult _ _ c.args.ticket d.now) c.get.result c.unwrap_or.ensures c.get.ensures.found c.get.ensures.missing
    (λ whole. own_result _ _ c.self.inside.results.now.taken own c.args.ticket c.self.invariant.0 c.self.invariant.1 same has whole) in
    subst (λ (a : Arrived). IsResult a.bundle a.question c.args.ticket c.unwrap_or.result.now) c.self.view_is kept
