use Rattle.std.proofs.Common.{◌≡◌, List, ◌++◌, ◌+◌, ◌∷◌, length, drop, ap, ◌∙◌, sym, subst}
use Rattle.std.proofs.lemmas.List.{drop_more}
use Rattle.census_bundle.specs.declared.bundle.Entry.{Entry}
use Rattle.crossbeam_deque.specs.Handles.{worker_view}
use Rattle.census_crew.specs.Items.{folder_tickets, tickets_from}
use Rattle.census_crew.specs.Fillings.{CanFollow}
use Rattle.census_crew.proofs.Fills.{next_folder}
use Rattle.census_crew.proofs.filling.push_tickets.Goals as goal

pub push_folder-requires-clause-next : goal.push_folder-requires-clause-next
push_folder-requires-clause-next c =
    let i = c.loop-folder in
    let filled = (worker_view i.owner).filled in
    let folders = c.folders-folders.result.now in
    let f = c.folder-item.result in
    let left : drop i.folder-index folders ≡ f ∷ drop (i.folder-index + 1) folders =
    drop_more folders i.folder-index f c.loop-folder-test.true ∙ ap (λ x. x ∷ drop (i.folder-index + 1) folders) (sym c.folder-item.is) in
    subst (λ (l : List Entry). CanFollow filled (folder_tickets i.number (length l))) (sym c.as_slice.ensures)
    (next_folder folders filled i.number f (drop (i.folder-index + 1) folders) (ap (λ l. filled ++ tickets_from i.number l) (sym left) ∙ i.invariant.left))
