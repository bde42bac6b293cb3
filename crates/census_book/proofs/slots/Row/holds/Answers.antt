use Rattle.std.proofs.Common.{ap, sym, ◌∙◌, is_some}
use Rattle.census_book.specs.Slots.{Row, work_in, work_at}
use Rattle.census_book.proofs.Kept.{some_alike}
use Rattle.census_book.proofs.Padding.{all_kept}
use Rattle.census_book.proofs.slots.Row.holds.Goals as goal

pub returns : goal.returns
returns c =
    let n = c.args.number in
    c.is_some.ensures ∙ some_alike c.get.result (λ d. d.now) _ c.get.ensures.some c.get.ensures.none
    ∙ ap (λ (r : Row). is_some (work_in (work_at r n))) (sym c.self.view_is) ∙ all_kept c.self.inside.is_dropped c.self.inside.len c.self.inside.slots.items n c.if-self.false
    ∙ ap (λ (r : Row). is_some (work_at r n)) c.self.view_is
