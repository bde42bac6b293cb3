use Rattle.std.proofs.Common.{◌≡◌, false, ap, sym, ◌∙◌, subst}
use Rattle.census_bundle.specs.Tickets.{has_ticket, with_ticket}
use Rattle.census_book.specs.Collecting.{IsResultOf}
use Rattle.census_book.specs.Progress.{Taken, taken_of}
use Rattle.census_book.specs.Slots.{KeepsResults, taken_in}
use Rattle.census_book.proofs.Memory.{made_or_left, on_ok_then}
use Rattle.census_book.proofs.Rows.{has_slot, keeps_put, slot_free, tickets_put}
use Rattle.census_book.proofs.results.Results.add.Goals as goal

pub put-requires-clause-empty : goal.put-requires-clause-empty
put-requires-clause-empty c =
    let w = c.args.done in
    slot_free c.self.inside.slots w.ticket (subst (λ (r : Taken). has_ticket r.taken w.ticket ≡ false) (sym c.self.view_is) c.requires.new)

pub invariant_of-self : goal.invariant_of-self
invariant_of-self c =
    let w = c.args.done in
    let belongs = subst (λ (r : Taken). IsResultOf r.bundle r.question w) (sym c.self.view_is) c.requires.belongs in
    made_or_left (λ rows. KeepsResults c.self.inside.bundle.now c.self.inside.question rows) c.put.result c.put.ensures.put c.put.ensures.unchanged (keeps_put _ _ c.self.inside.slots w c.self.invariant belongs) c.self.invariant

pub returns-clause-taken : goal.returns-clause-taken
returns-clause-taken c =
    let w = c.args.done in
    let belongs = subst (λ (r : Taken). IsResultOf r.bundle r.question w) (sym c.self.view_is) c.requires.belongs in
    let has = has_slot _ _ _ w.ticket belongs.entry c.self.invariant belongs.at in
    on_ok_then c.put.result (λ put.
    ap (taken_of c.self.inside.bundle.now c.self.inside.question) (ap taken_in put ∙ tickets_put c.self.inside.slots w has)
    ∙ ap (λ (r : Taken). taken_of r.bundle r.question (with_ticket r.taken w.ticket)) c.self.view_is) c.put.ensures.put
