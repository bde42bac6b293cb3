use Rattle.std.proofs.Common.{◌≡◌, ◌-◌, ◌<◌, Some, length, sym, subst, ap, ◌∙◌, slice_set, arith}
use Rattle.census_bundle.specs.declared.ticket.Ticket.{Ticket}
use Rattle.census_bundle.specs.Tickets.{element_at, with_ticket}
use Rattle.census_book.specs.Collecting.{HasCollection}
use Rattle.census_book.specs.Front.{IsFront}
use Rattle.census_book.specs.Progress.{Taken}
use Rattle.census_format.specs.Reports.{run_of}
use Rattle.census_book.proofs.Fronts.{front_after}
use Rattle.census_book.proofs.Missing.{run_collection}
use Rattle.census_book.proofs.Texts.{ticket_in}
use Rattle.census_book.proofs.collector.accept.Goals as goal
use Rattle.census_book.proofs.collector.accept.Goals.{then-release-as_slice, else-release-as_slice}

pub index_mut-requires : goal.index_mut-requires
index_mut-requires c =
    let t = c.args.done.ticket in
    let runs = c.args.front.now.runs in
    let at = ticket_in c.args.results.now.bundle t c.requires.belongs.entry c.requires.belongs.at in
    let within : t.folder - 1 < length runs.items = omega (arith, at, c.requires.front.each) in
    rw c.ticket-number.ensures (subst (λ n. t.folder - 1 < n) (sym runs.ok.0) within)

pub drop_collection-requires-clause-whole : goal.drop_collection-requires-clause-whole
drop_collection-requires-clause-whole c =
    let b = c.args.results.now.bundle in
    let t = c.args.done.ticket in
    let after = with_ticket c.args.results.now.taken t in
    let f = c.folder_at-folder.result.now in
    let folders : c.folders.result.now ≡ b = c.folders.ensures.value ∙ c.bundle.ensures in
    let at : element_at b t.folder ≡ Some f = subst (λ fs. element_at fs t.folder ≡ Some f) folders (subst (λ (u : Ticket). element_at c.folders.result.now u.folder ≡ Some f) c.ticket-number.ensures c.folder_at-folder.ensures.at) in
    let whole : run_of after t.folder f ≡ length f.entries = sym (c.requires.release.come_to f at) ∙ c.if-release-as_slice.true ∙ ap length c.as_slice.ensures in
    let has : HasCollection b after t.folder = run_collection b after t.folder f at whole in
    subst (λ (r : Taken). HasCollection r.bundle r.taken c.ticket-number.result.folder) (sym c.in_ok-add.ensures.taken)
    (subst (λ (u : Ticket). HasCollection b after u.folder) (sym c.ticket-number.ensures) has)

pub returns-clause-front : goal.returns-clause-front
returns-clause-front c =
    let runs = c.args.front.now.runs.items in
    let r = c.requires.release in
    let front = front_after _ c.args.results.now.question _ runs _ c.args.release.first_open c.args.done.ticket c.args.release.run _ _ c.requires.front c.requires.belongs c.requires.new r.come_to r.then_open in
    let same : c.if-release-as_slice.results ≡ c.add.new.self =
    elim c.if-release-as_slice.branch [
      | then-release-as_slice w ↦ w.results-is ∙ w.drop_collection.ensures
      | else-release-as_slice w ↦ w.results-is
    ] in
    subst (λ (t : Taken). IsFront t.bundle t.taken (slice_set runs (c.ticket-number.result.folder - 1) c.args.release.run) c.args.release.first_open) (sym (same ∙ c.in_ok-add.ensures.taken))
    (rw c.ticket-number.ensures front)
