use Rattle.std.proofs.Common.{◌<◌, IfSome, length, ap, subst, ◌∙◌}
use Rattle.life_model.specs.Generation.{cells}
use Rattle.life_classes.proofs.Grouping.{as_many_lists}
use Rattle.life_classes.proofs.parting.main_root.Goals as goal

pub returns : goal.returns
returns c =
    let l = c.args.cells.now in
    let many = as_many_lists c.in_ok-lists.lists.items (cells l.cells) l.tags.items c.args.forest.now c.in_ok-lists.ensures in
    subst (λ m. IfSome c.longest.result (λ n. n < m)) (ap length c.as_slice.ensures.value ∙ many) c.longest.ensures
