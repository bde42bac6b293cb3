use Rattle.std.proofs.Common.{length, sym, ap, ◌∙◌}
use Rattle.life_model.specs.Generation.{size, from_list}
use Rattle.life_model.proofs.Generations.{size-cells, cells-from_list}
use Rattle.life_plane.proofs.list_plane.ListPlanePlane.population.Goals as goal

pub returns : goal.returns
returns c =
    let items = c.self.inside.items.items in
    c.len.ensures ∙ c.self.inside.items.ok.0 ∙ sym (ap length (cells-from_list items c.self.invariant.0))
    ∙ sym (size-cells (from_list items)) ∙ ap (λ p. size p.0) c.self.view_is
