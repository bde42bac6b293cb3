use Rattle.std.proofs.Common.{◌≡◌, ◌+◌, sym, ap, ◌∙◌, subst, length, arith}
use Rattle.census_bundle.specs.Sizes.{IsWithinCounts}
use Rattle.census_bundle.specs.Tickets.{HasAllTickets, ticket}
use Rattle.census_book.specs.Collecting.{IsLeastMissing}
use Rattle.census_book.specs.Progress.{Progress}
use Rattle.census_book.proofs.Missing.{all_taken}
use Rattle.census_book.proofs.Fronts.{first_missing}
use Rattle.census_book.proofs.collector.Collector.missing.Goals as goal

pub returns-then-first-folders : goal.returns-then-first-folders
returns-then-first-folders c =
    let b = c.self.inside.results.bundle in
    let folders : c.folders.result.now ≡ b = c.folders.ensures.value ∙ c.bundle.ensures in
    let whole : c.self.inside.front.first_open ≡ length b = c.if-first-folders.true ∙ ap length folders in
    subst (λ (p : Progress). HasAllTickets p.bundle p.taken) c.self.view_is (all_taken b c.self.inside.results.taken c.self.inside.front.first_open c.self.invariant.whole (omega arith))

pub overflow_add-result-2 : goal.overflow_add-result-2
overflow_add-result-2 c =
    let folders = c.folders.ensures.value ∙ c.bundle.ensures in
    let found = first_missing _ _ _ _ _ c.self.invariant (subst IsWithinCounts c.bundle.ensures c.folders.ensures.small) (λ e. c.if-first-folders.false (e ∙ sym (ap length folders))) c.index.ensures in
    omega (arith, found.1)

pub returns : goal.returns
returns c =
    let folders = c.folders.ensures.value ∙ c.bundle.ensures in
    let found = first_missing _ _ _ _ _ c.self.invariant (subst IsWithinCounts c.bundle.ensures c.folders.ensures.small) (λ e. c.if-first-folders.false (e ∙ sym (ap length folders))) c.index.ensures in
    subst (λ (p : Progress). IsLeastMissing p.bundle p.taken (ticket (c.self.inside.front.first_open + 1) (c.index.result.now + 1))) c.self.view_is found.0
