use Rattle.std.proofs.Common.{◌≡◌, ◌∙◌, IfNone, None, ap, sym, subst}
use Rattle.std.proofs.lemmas.Option.{IfSome_then}
use Rattle.census_bundle.specs.Tickets.{element_at}
use Rattle.census_book.specs.Slots.{Row, work_in, work_at}
use Rattle.census_book.proofs.Padding.{row_result_at}
use Rattle.census_book.proofs.slots.Row.get.Goals as goal

pub returns-clause-some : goal.returns-clause-some
returns-clause-some c =
    let results = c.self.inside.slots.items in
    let n = c.args.number in
    let same : work_in (work_at c.args.self.now n) ≡ work_in (element_at c.as_slice.result.now n) =
    ap (λ (r : Row). work_in (work_at r n)) (sym c.self.view_is) ∙ row_result_at c.self.inside.is_dropped c.self.inside.len results n c.self.invariant.1
    ∙ ap (λ rs. work_in (element_at rs n)) (sym c.as_slice.ensures.value) in
    IfSome_then c.result_in.result c.result_in.ensures.some (λ d at. same ∙ at)

pub returns-clause-none : goal.returns-clause-none
returns-clause-none c =
    let results = c.self.inside.slots.items in
    let n = c.args.number in
    let same : work_in (work_at c.args.self.now n) ≡ work_in (element_at c.as_slice.result.now n) =
    ap (λ (r : Row). work_in (work_at r n)) (sym c.self.view_is) ∙ row_result_at c.self.inside.is_dropped c.self.inside.len results n c.self.invariant.1
    ∙ ap (λ rs. work_in (element_at rs n)) (sym c.as_slice.ensures.value) in
    subst (λ work. IfNone c.result_in.result (work ≡ None)) (sym same) c.result_in.ensures.none
