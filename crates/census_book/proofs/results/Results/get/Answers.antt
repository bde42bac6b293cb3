use Rattle.std.proofs.Common.{◌≡◌, IfNone, None, Some, true, subst}
use Rattle.std.proofs.lemmas.Option.{IfSome_then}
use Rattle.census_bundle.specs.Tickets.{has_ticket}
use Rattle.census_book.specs.Collecting.{HasCollection, IsResult}
use Rattle.census_book.specs.Progress.{Taken}
use Rattle.census_book.specs.Slots.{result_at}
use Rattle.census_book.proofs.Rows.{not_kept}
use Rattle.census_book.proofs.results.Results.get.Goals as goal

pub returns-clause-found : goal.returns-clause-found
returns-clause-found c =
    IfSome_then c.get.result c.get.ensures.some (λ d at.
    subst (λ (r : Taken). IsResult r.bundle r.question c.args.ticket d.now) c.self.view_is (c.self.invariant.results c.args.ticket d.now at))

pub returns-clause-missing : goal.returns-clause-missing
returns-clause-missing c =
    elim c.get.result as (λ o. IfNone o (result_at c.self.inside.slots c.args.ticket ≡ None)
    → IfNone o (has_ticket c.args.self.now.taken c.args.ticket ≡ true → HasCollection c.args.self.now.bundle c.args.self.now.taken c.args.ticket.folder)) [
      | None ↦ λ none.
          subst (λ (r : Taken). has_ticket r.taken c.args.ticket ≡ true → HasCollection r.bundle r.taken c.args.ticket.folder) c.self.view_is
          (not_kept c.self.inside.bundle.now c.self.inside.question c.self.inside.slots c.args.ticket c.self.invariant none)
      | Some done ↦ λ other. other
    ] c.get.ensures.none
