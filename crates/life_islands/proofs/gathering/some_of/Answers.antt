use Rattle.std.proofs.Common.{[], ◌∷◌, ◌++◌, sym, ◌∙◌, arith}
use Rattle.std.specs.Vec.{vec_len}
use Rattle.life_islands.proofs.Collected.{filled, none_passed_over, one_set_more, unfilled}
use Rattle.life_islands.proofs.gathering.some_of.Goals as goal

pub loop-cells-preserved-in-Continue-1 : goal.loop-cells-preserved-in-Continue-1
loop-cells-preserved-in-Continue-1 c =
    let some = filled (vec_len c.in-Some.cells) c.is_empty.result c.is_empty.ensures c.if-not-is_empty.true in
    c.in_ok-push.ensures.items ∙ (λ i. c.loop-cells.invariant i ++ (c.from_ordered.ensures i ∷ []))
    ∙ sym (one_set_more c.loop-cells.yielded c.in-Some.cells (omega arith))

pub loop-cells-preserved : goal.loop-cells-preserved
loop-cells-preserved c =
    let none = unfilled (vec_len c.in-Some.cells) c.is_empty.result c.is_empty.ensures c.if-not-is_empty.false in
    c.loop-cells.invariant ∙ sym (none_passed_over c.loop-cells.yielded c.in-Some.cells (omega arith))
