use Rattle.std.proofs.Common.{◌≡◌, ◌+◌, ◌<◌, ◌≤◌, ◌++◌, List, [], ◌∷◌, length, drop, ap, sym, ◌∙◌, arith, append_assoc, append-nil}
use Rattle.std.proofs.lemmas.List.{drop_all}
use Rattle.census_bundle.specs.declared.bundle.Folder.{Folder}
use Rattle.census_bundle.specs.declared.ticket.Ticket.{Ticket}
use Rattle.census_bundle.specs.Growing.{with_folder}
use Rattle.census_bundle.specs.Tickets.{has_ticket, tickets_of}
use Rattle.census_book.specs.Losses.{lose_entries, lose_folder, lose_folders}
use Rattle.census_crew.specs.Losing.{with_entries}
use Rattle.census_crew.proofs.Lost.{folder_added, folders_left}
use Rattle.census_crew.proofs.losing.copy_losing.Goals as goal

pub loop-k-preserved : goal.loop-k-preserved
loop-k-preserved c =
    let lost = λ (t : Ticket). has_ticket (tickets_of c.args.lost.now) t in
    let b = c.args.bundle.now in
    let k = c.loop-k.k in
    let f = c.index-folders-k.result in
    let size : length c.folders-folders.result.now ≡ length b = ap length c.folders-folders.ensures.value in
    let within : k < length b = omega arith in
    let is = rw c.folders-folders.ensures.value at c.index-folders-k.is in
    let es = lose_entries lost (k + 1) 1 f.entries in
    let rest = lose_folders lost (1 + (k + 1)) (drop (k + 1) b) in
    ap (λ (fs : List Folder). fs ++ rest)
    (c.in_ok-add_entries.ensures ∙ ap (λ (fs : List Folder). with_entries fs es) (c.in_ok-add_folder.ensures.added ∙ ap (with_folder c.loop-k.copy) c.as_slice.ensures) ∙ folder_added c.loop-k.copy f.name es)
    ∙ append_assoc c.loop-k.copy (lose_folder lost (k + 1) f ∷ []) rest
    ∙ ap (λ fs. c.loop-k.copy ++ fs) (sym (folders_left lost k b f within is))
    ∙ c.loop-k.invariant

pub returns : goal.returns
returns c =
    let lost = λ (t : Ticket). has_ticket (tickets_of c.args.lost.now) t in
    let b = c.args.bundle.now in
    let k = c.loop-k.k in
    let size : length c.folders-folders.result.now ≡ length b = ap length c.folders-folders.ensures.value in
    let all : length b ≤ k = omega arith in
    sym (append-nil c.loop-k.copy) ∙ ap (λ fs. c.loop-k.copy ++ lose_folders lost (1 + k) fs) (sym (drop_all k b all)) ∙ c.loop-k.invariant
