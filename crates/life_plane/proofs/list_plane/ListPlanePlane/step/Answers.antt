use Rattle.std.proofs.Common.{◌+◌}
use Rattle.std.proofs.lemmas.List.Elements.{All-same}
use Rattle.life_model.proofs.Generations.{cells-from_list}
use Rattle.life_cells.specs.Limits.{IsWithin}
use Rattle.life_plane.proofs.list_plane.ListPlanePlane.step.Goals as goal

pub returns-clause-within : goal.returns-clause-within
returns-clause-within c =
    All-same (IsWithin (c.self.inside.age + 1)) _ _ (cells-from_list c.in_ok-items.items.items c.in_ok-items.ensures.rising)
    (c.in_ok-items.ensures.within c.self.inside.age (All-same (IsWithin c.self.inside.age) _ _ c.as_slice.ensures.value c.self.invariant.1))
