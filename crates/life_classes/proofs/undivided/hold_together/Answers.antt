use Rattle.std.proofs.Common.{◌<◌, length, map, sym, subst, arith}
use borrow.Author.Tests.{ltb-true}
use Rattle.life_classes.specs.Tracking.{AreTracked, class_of_cell}
use Rattle.life_classes.proofs.Beginning.{alone_tracked}
use Rattle.life_classes.proofs.Few.{undivided_soon}
use Rattle.life_classes.proofs.Merging.{led}
use Rattle.life_classes.proofs.undivided.hold_together.Goals as goal

pub returns : goal.returns
returns c t R b =
    let G = c.args.cells.now in
    let few : length c.in_ok-classes.classes.items < 2 = omega (arith, ltb-true _ _ t) in
    undivided_soon R b 0 G c.in_ok-classes.classes.items
    (λ k h.
    led (map class_of_cell c.as_slice.result.now) c.in_ok-classes.classes.items c.in_ok-classes.ensures.tracked R k 0 G h
    (subst (λ cs. AreTracked R k 0 G (map class_of_cell cs)) (sym c.as_slice.ensures.cells) (alone_tracked R k G)))
    c.in_ok-classes.ensures.apart (omega arith) (λ i j d h k. absurd (omega arith))
