use Rattle.std.proofs.Common.{◌≡◌, map, sym, ap, subst, ◌∙◌}
use Rattle.life_model.specs.Evolution.{next}
use Rattle.life_classes.specs.Splits.{classes_of_split}
use Rattle.life_classes.specs.Tracking.{LeadTo, after, moved_on}
use Rattle.life_classes.proofs.Steps.{alone_for_one, for_then, moved_on_alone}
use Rattle.life_classes.proofs.Wholes.{reached_next}
use Rattle.life_classes.proofs.walking.one_later.Goals as goal

pub followed-requires-clause-reached : goal.followed-requires-clause-reached
followed-requires-clause-reached g c =
    let R = c.args.rule.now in
    reached_next R c.args.split.last c.in_ok-cells.cells
    (c.in_ok-cells.ensures.cells ∙ c.in_ok-step.ensures.cells ∙ ap (next R) (sym c.requires.cells))

pub returns-clause-led : goal.returns-clause-led
returns-clause-led g c =
    let R = c.args.rule.now in
    let s = c.args.split in
    let cs = classes_of_split s in
    let ds = classes_of_split c.in_ok-later.later in
    let cells_are = c.in_ok-cells.ensures.cells ∙ c.in_ok-step.ensures.cells ∙ ap (next R) (sym c.requires.cells) in
    let moved : map (moved_on c.in_ok-cells.cells) cs ≡ map (after R 1) cs =
    ap (λ G. map (moved_on G) cs) cells_are
    ∙ moved_on_alone R s.first s.last s.forest.items c.requires.labelled.last c.requires.apart in
    for_then R 1 cs (map (after R 1) cs) ds (alone_for_one R cs c.requires.apart)
    (subst (λ es. LeadTo es ds) moved c.in_ok-later.ensures.tracked)
