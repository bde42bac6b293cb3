use Rattle.std.proofs.Common.{◌≡◌, ◌≤◌, ◌++◌, [], Some, length, sym, ap, subst, ◌∙◌, append-nil}
use Rattle.census_bundle.specs.declared.bundle.Folder.{Folder}
use Rattle.census_bundle.specs.declared.ticket.Ticket.{Ticket}
use Rattle.census_bundle.specs.Tickets.{has_ticket, ticket, element_at, with_ticket}
use Rattle.census_book.specs.Front.{IsNextOpen}
use Rattle.census_format.specs.Lines.{groups_text, end_line}
use Rattle.census_format.specs.Reports.{run_of, folder_out}
use Rattle.census_rows.specs.Lines.{text_of}
use Rattle.census_book.proofs.Runs.{run_within}
use Rattle.census_book.proofs.Fronts.{run_read, same_folder, run_kept, front_after, end_when, no_end_when, released_text}
use Rattle.census_book.proofs.release.released.Goals as goal
use Rattle.census_book.proofs.release.released.Goals.{then-first_open-folders+in_ok-push_end, else-first_open-folders}

pub run_count-m-requires-clause-within : goal.run_count-m-requires-clause-within
run_count-m-requires-clause-within c =
    let b = c.args.results.now.bundle in
    let taken = c.args.results.now.taken in
    let runs = c.args.front.now.runs.items in
    let t = c.args.done.now.ticket in
    let f = c.folder_at-folder.result.now in
    let own = c.ticket-c.ensures in
    let folders : c.folders-folders.result.now ≡ b = c.folders-folders.ensures.value ∙ c.bundle.ensures in
    let at : element_at b t.folder ≡ Some f = subst (λ fs. element_at fs t.folder ≡ Some f) folders (subst (λ (u : Ticket). element_at c.folders-folders.result.now u.folder ≡ Some f) own c.folder_at-folder.ensures.at) in
    let k : c.index.result.now ≡ run_of taken t.folder f = run_read b taken runs c.args.front.now.first_open t c.requires.belongs.entry f c.index.result.now c.requires.front c.requires.belongs.at at (rw own at c.index.ensures) in
    let most = run_within (λ i. has_ticket taken (ticket t.folder i)) 1 f.entries in
    subst (λ n. n ≤ length f.entries) (sym k) most

pub run_count-m-requires-clause-before : goal.run_count-m-requires-clause-before
run_count-m-requires-clause-before c =
    let b = c.args.results.now.bundle in
    let taken = c.args.results.now.taken in
    let runs = c.args.front.now.runs.items in
    let t = c.args.done.now.ticket in
    let f = c.folder_at-folder.result.now in
    let own = c.ticket-c.ensures in
    let folders : c.folders-folders.result.now ≡ b = c.folders-folders.ensures.value ∙ c.bundle.ensures in
    let at : element_at b t.folder ≡ Some f = subst (λ fs. element_at fs t.folder ≡ Some f) folders (subst (λ (u : Ticket). element_at c.folders-folders.result.now u.folder ≡ Some f) own c.folder_at-folder.ensures.at) in
    let k : c.index.result.now ≡ run_of taken t.folder f = run_read b taken runs c.args.front.now.first_open t c.requires.belongs.entry f c.index.result.now c.requires.front c.requires.belongs.at at (rw own at c.index.ensures) in
    rw (c.new-arrival.ensures, own) (run_kept taken t t.folder c.index.result.now f k)

pub returns : goal.returns
returns c =
    let b = c.args.results.now.bundle in
    let taken = c.args.results.now.taken in
    let runs = c.args.front.now.runs.items in
    let t = c.args.done.now.ticket in
    let f = c.folder_at-folder.result.now in
    let own = c.ticket-c.ensures in
    let folders : c.folders-folders.result.now ≡ b = c.folders-folders.ensures.value ∙ c.bundle.ensures in
    let at : element_at b t.folder ≡ Some f = subst (λ fs. element_at fs t.folder ≡ Some f) folders (subst (λ (u : Ticket). element_at c.folders-folders.result.now u.folder ≡ Some f) own c.folder_at-folder.ensures.at) in
    let k : c.index.result.now ≡ run_of taken t.folder f = run_read b taken runs c.args.front.now.first_open t c.requires.belongs.entry f c.index.result.now c.requires.front c.requires.belongs.at at (rw own at c.index.ensures) in
    let m : c.run_count-m.result ≡ run_of (with_ticket taken t) t.folder f = rw (c.new-arrival.ensures, own) at c.run_count-m.ensures.run in
    let come : (g : Folder) → element_at b t.folder ≡ Some g → c.run_count-m.result ≡ run_of (with_ticket taken t) t.folder g = λ g is. m ∙ ap (run_of (with_ticket taken t) t.folder) (same_folder _ f g at is) in
    let next : IsNextOpen b runs (record { folder = t.folder; run = c.run_count-m.result }) c.args.front.now.first_open c.next_open-first_open.result = rw (folders, c.deref.ensures.value, own) at c.next_open-first_open.ensures in
    let front = front_after b c.args.results.now.question taken runs c.args.front.now.first_open c.next_open-first_open.result t c.run_count-m.result _ _ c.requires.front c.requires.belongs c.requires.new come next in
    let lines : c.push_folder.new.text.items ≡ [] ++ groups_text (folder_out c.args.results.now.question t.folder f c.index.result.now c.run_count-m.result) = rw (c.clear.ensures.items, c.new-arrival.ensures, own) at c.in_ok-push_folder.ensures in
    record {
      released =
          elim c.if-first_open-folders.branch [
            | then-first_open-folders+in_ok-push_end w ↦
                released_text b c.args.results.now.question taken t f c.index.result.now c.run_count-m.result _ (text_of (end_line b)) at k m (end_when b _ _ _ front (w.if-first_open-folders.true ∙ ap length folders))
                (ap (λ v. v.items) w.text-is ∙ w.in_ok-push_end.ensures ∙ ap (λ fs. c.push_folder.new.text.items ++ text_of (end_line fs)) folders ∙ ap (λ x. x ++ text_of (end_line b)) lines)
            | else-first_open-folders w ↦
                released_text b c.args.results.now.question taken t f c.index.result.now c.run_count-m.result _ [] at k m (no_end_when b _ _ _ front (λ e. w.if-first_open-folders.false (e ∙ sym (ap length folders))))
                (ap (λ v. v.items) w.text-is ∙ lines ∙ sym (append-nil _))
          ];
      come_to = come;
      then_open = next;
    }
