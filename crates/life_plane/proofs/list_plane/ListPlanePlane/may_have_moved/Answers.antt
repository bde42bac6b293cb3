use Rattle.std.proofs.Common.{◌≡◌, true, get_or, sym, ap, ◌∙◌}
use Rattle.life_model.specs.Cell.{origin, plus}
use Rattle.life_model.specs.Generation.{contains}
use Rattle.life_model.proofs.Generations.{contains-cells, contains-from_list}
use Rattle.life_plane.specs.Field.{has}
use Rattle.life_plane.proofs.Listed.{has_listed}
use Rattle.life_plane.proofs.list_plane.ListPlanePlane.may_have_moved.Goals as goal

pub returns : goal.returns
returns c = λ no d within into.
    let cells = c.as_slice-2.result.now in
    let own = c.self.inside.items.items in
    c.may_have_moved.ensures no d
    (λ n less.
    let cell = get_or cells n origin in
    let here : contains c.args.list.now cell ≡ true =
    contains-cells c.args.list.now cell ∙ ap (λ cs. has cs cell) (sym c.as_slice-2.ensures.cells) ∙ has_listed cells n less in
    ap (λ cs. has cs (plus cell d)) c.as_slice.ensures.value ∙ sym (contains-from_list own (plus cell d))
    ∙ ap (λ p. contains p.0 (plus cell d)) c.self.view_is ∙ into cell here)
