use Rattle.std.proofs.Common.{map, sym, subst}
use Rattle.life_model.specs.Generation.{cells}
use Rattle.life_classes.specs.Splits.{classes_of_split}
use Rattle.life_classes.specs.Tracking.{LeadTo, class_of_cell}
use Rattle.life_classes.proofs.Merging.{in_turn}
use Rattle.life_classes.proofs.Repeated.{lead_to_set}
use Rattle.life_classes.proofs.splitting.first_classes.Goals as goal

pub returns-clause-tracked : goal.returns-clause-tracked
returns-clause-tracked c =
    let singles = map class_of_cell c.args.cells.now in
    let ordered = map class_of_cell (cells c.in_ok-first.first) in
    in_turn singles ordered c.in_ok-all.all.items
    (subst (λ G. LeadTo singles (map class_of_cell (cells G))) (sym c.in_ok-first.ensures) (lead_to_set c.args.cells.now))
    (in_turn ordered (classes_of_split c.in_ok-split.split) c.in_ok-all.all.items c.in_ok-split.ensures.tracked
    c.in_ok-all.ensures.tracked)
