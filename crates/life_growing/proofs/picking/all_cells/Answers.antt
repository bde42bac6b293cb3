use Rattle.std.proofs.Common.{ap, ◌∙◌, take}
use Rattle.std.proofs.lemmas.List.{take_all}
use Rattle.life_model.specs.Generation.{from_list}
use Rattle.life_classes.proofs.Groups.{union_from_cells}
use Rattle.life_objects.specs.Union.{union_of}
use Rattle.life_growing.proofs.picking.all_cells.Goals as goal

pub returns : goal.returns
returns c =
    c.from_ordered.ensures ∙ c.put_in_order.ensures.same ∙ ap from_list c.loop-set.invariant.cells
    ∙ union_from_cells (take c.loop-set.set-index c.args.sets.now)
    ∙ ap union_of (take_all c.loop-set.set-index c.args.sets.now c.loop-set-test.false)
