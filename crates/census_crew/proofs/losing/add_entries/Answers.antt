use Rattle.std.proofs.Common.{◌≡◌, ◌+◌, ◌<◌, ◌≤◌, List, length, drop, ap, sym, ◌∙◌, arith}
use Rattle.std.proofs.lemmas.List.{drop_all}
use Rattle.census_bundle.specs.declared.bundle.Entry.{Entry}
use Rattle.census_bundle.specs.declared.bundle.Folder.{Folder}
use Rattle.census_bundle.specs.declared.ticket.Ticket.{Ticket}
use Rattle.census_bundle.specs.Growing.{with_entry}
use Rattle.census_bundle.specs.Tickets.{has_ticket, tickets_of}
use Rattle.census_book.specs.Losses.{lose_entries, lose_if}
use Rattle.census_crew.specs.Losing.{with_entries}
use Rattle.census_crew.proofs.Lost.{entries_left}
use Rattle.census_crew.proofs.losing.add_entries.Goals as goal

pub loop-i-preserved : goal.loop-i-preserved
loop-i-preserved c =
    let lost = λ (t : Ticket). has_ticket (tickets_of c.args.lost.now) t in
    let es = c.args.folder.now.entries in
    let i = c.loop-i.i in
    let e = c.index-entries-i.result in
    let size : length c.as_slice-entries.result.now ≡ length es = ap length c.as_slice-entries.ensures in
    let within : i < length es = omega arith in
    let is = rw c.as_slice-entries.ensures at c.index-entries-i.is in
    let rest = lose_entries lost c.args.c (1 + (i + 1)) (drop (i + 1) es) in
    ap (λ (b : List Folder). with_entries b rest) (c.in_ok-add_entry.ensures ∙ ap (λ x. with_entry c.loop-i.copy (lose_if x e)) c.is_among.ensures)
    ∙ ap (λ (xs : List Entry). with_entries c.loop-i.copy xs) (sym (entries_left lost c.args.c i es e within is))
    ∙ c.loop-i.invariant

pub returns : goal.returns
returns c =
    let lost = λ (t : Ticket). has_ticket (tickets_of c.args.lost.now) t in
    let es = c.args.folder.now.entries in
    let size : length c.as_slice-entries.result.now ≡ length es = ap length c.as_slice-entries.ensures in
    let all : length es ≤ c.loop-i.i = omega arith in
    ap (λ xs. with_entries c.loop-i.copy (lose_entries lost c.args.c (1 + c.loop-i.i) xs)) (sym (drop_all c.loop-i.i es all)) ∙ c.loop-i.invariant
