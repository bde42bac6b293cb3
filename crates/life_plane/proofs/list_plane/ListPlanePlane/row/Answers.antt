use Rattle.std.proofs.Common.{◌+ℤ◌, pos, cond, sym, ap, ◌∙◌}
use Rattle.life_model.specs.Cell.{Cell}
use Rattle.life_model.specs.Generation.{contains}
use Rattle.life_model.proofs.Generations.{contains-from_list}
use Rattle.life_plane.specs.Field.{has}
use Rattle.life_plane.proofs.list_plane.ListPlanePlane.row.Goals as goal

pub returns : goal.returns
returns c = λ j less.
    let cell : Cell = (c.args.cell.0 +ℤ pos j, c.args.cell.1) in
    c.row_of.ensures j less
    ∙ ap (λ b. cond b 1 0) (ap (λ cs. has cs cell) c.as_slice.ensures.value ∙ sym (contains-from_list c.self.inside.items.items cell)
    ∙ ap (λ p. contains p.0 cell) c.self.view_is)
