use Rattle.std.proofs.Common.{◌≤◌, length, ap, sym, ◌∙◌, subst}
use Rattle.census_book.specs.Collecting.{HasCollection}
use Rattle.census_book.specs.Progress.{Taken, taken_of}
use Rattle.census_book.specs.Slots.{KeepsResults, taken_in}
use Rattle.census_book.proofs.Rows.{keeps_dropped, row_full, row_within, tickets_dropped}
use Rattle.census_book.proofs.results.Results.drop_collection.Goals as goal

pub drop_results-requires-clause-full : goal.drop_results-requires-clause-full
drop_results-requires-clause-full c row at =
    let whole = subst (λ (r : Taken). HasCollection r.bundle r.taken c.args.folder) (sym c.self.view_is) c.requires.whole in
    let within = subst (λ (r : Taken). c.args.folder ≤ length r.bundle) (sym c.self.view_is) c.requires.number.1 in
    row_full _ c.self.inside.question c.self.inside.slots c.args.folder row c.self.invariant within whole at

pub drop_results-requires-clause-within : goal.drop_results-requires-clause-within
drop_results-requires-clause-within c =
    let within = subst (λ (r : Taken). c.args.folder ≤ length r.bundle) (sym c.self.view_is) c.requires.number.1 in
    (c.requires.number.0, row_within _ c.self.inside.question c.self.inside.slots c.args.folder c.self.invariant within)

pub invariant_of-self : goal.invariant_of-self
invariant_of-self c =
    let whole = subst (λ (r : Taken). HasCollection r.bundle r.taken c.args.folder) (sym c.self.view_is) c.requires.whole in
    subst (λ rows. KeepsResults c.self.inside.bundle.now c.self.inside.question rows) (sym c.drop_results.ensures) (keeps_dropped _ _ c.self.inside.slots c.args.folder c.self.invariant c.requires.number.0 whole)

pub returns : goal.returns
returns c =
    ap (taken_of c.self.inside.bundle.now c.self.inside.question) (ap taken_in c.drop_results.ensures ∙ tickets_dropped c.self.inside.slots c.args.folder)
    ∙ c.self.view_is
