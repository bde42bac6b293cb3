use Rattle.std.proofs.Common.{sym, ap, subst, ◌∙◌}
use Rattle.census_book.specs.Progress.{taken_of}
use Rattle.census_book.specs.Slots.{KeepsResults, empty_slots, taken_in}
use Rattle.census_book.proofs.Rows.{keeps_empty, taken_empty}
use Rattle.census_book.proofs.results.Results.new.Goals as goal

pub invariant_of-result : goal.invariant_of-result
invariant_of-result c =
    let empty = c.in_ok-slots.ensures ∙ ap empty_slots c.folders.ensures.value in
    subst (λ rows. KeepsResults c.args.bundle.now c.args.question rows) (sym empty) (keeps_empty c.args.bundle.now c.args.question)

pub returns : goal.returns
returns c =
    let empty = c.in_ok-slots.ensures ∙ ap empty_slots c.folders.ensures.value in
    ap (taken_of c.args.bundle.now c.args.question) (ap taken_in empty ∙ taken_empty c.args.bundle.now)
