use Rattle.std.proofs.Common.{refl, false, get_or, below_more, true≢false, sym, subst, ◌∙◌, arith}
use Rattle.std.proofs.lemmas.List.{get_or_default}
use Rattle.life_model.specs.Cell.{Cell, origin}
use Rattle.life_model.specs.Generation.{cells}
use Rattle.life_model.proofs.Generations.{size-cells}
use Rattle.life_islands.specs.Labels.{AreJoinedFurther, sets_of}
use Rattle.life_islands.specs.Splits.{IsSettledNear}
use Rattle.life_islands.proofs.Further.{further_laid, further_more, further_no_more, kept_through, same_sets}
use Rattle.life_islands.proofs.Placing.{held_by_cells}
use Rattle.life_islands.proofs.places.join_places.Goals as goal
use Rattle.life_islands.proofs.places.join_places.Goals.{then-join_around, else-join_around}

pub join_around-requires-clause-within : goal.join_around-requires-clause-within
join_around-requires-clause-within c =
    let at = c.loop-n-test.true in
    let end = c.len-n-end.ensures ∙ size-cells c.args.list.now in
    omega arith

pub join_around-requires-clause-laid_out : goal.join_around-requires-clause-laid_out
join_around-requires-clause-laid_out c =
    let a = c.args in
    further_laid a.list.now a.sets.now c.loop-n.sets c.loop-n.joined c.loop-n.invariant.further
    (sets_of a.list.now a.isles.now) c.requires.sets c.requires.laid_out

pub loop-n-preserved : goal.loop-n-preserved
loop-n-preserved c =
    let a = c.args in
    let at = c.loop-n.invariant in
    let here = c.join_around.ensures in
    let G = a.list.now in
    let S = a.sets.now in
    let M = c.loop-n.sets in
    let N = c.join_around.new.sets in
    record {
      further = elim c.if-join_around.branch [
        | then-join_around w ↦ subst (AreJoinedFurther S N) (sym w.joined-is) (further_more S M N c.loop-n.joined at.further
            (subst (AreJoinedFurther M N) w.if-join_around.true here.further))
        | else-join_around w ↦ subst (AreJoinedFurther S N) (sym w.joined-is) (further_no_more S M N c.loop-n.joined at.further
            (subst (AreJoinedFurther M N) w.if-join_around.false here.further))
      ];
      tied = kept_through a.rule.now a.list.now a.sets.now c.loop-n.sets c.join_around.new.sets at.further.labels at.tied here.tied;
      settled = λ e. elim c.if-join_around.branch [
        | then-join_around w ↦ absurd (true≢false (sym w.joined-is ∙ e))
        | else-join_around w ↦
            let same = same_sets G M N false (subst (AreJoinedFurther M N) w.if-join_around.false here.further) refl in
            λ k d h.
            below_more (λ j. (z : Cell) → IsSettledNear a.rule.now G (sets_of G N) (get_or (cells G) j z)) c.loop-n.n
            (λ j l z. subst (λ Hs. IsSettledNear a.rule.now G Hs (get_or (cells G) j z)) (sym same) (at.settled (sym w.joined-is ∙ e) j z l))
            (λ z. subst (IsSettledNear a.rule.now G (sets_of G N))
            (get_or_default (cells G) c.loop-n.n origin z (let l = c.loop-n-test.true in let end = c.len-n-end.ensures ∙ size-cells c.args.list.now in omega arith))
            (here.settled w.if-join_around.false)) k h d
      ];
    }

pub returns-clause-held : goal.returns-clause-held
returns-clause-held c e =
    let a = c.args in
    let laid = further_laid a.list.now a.sets.now c.loop-n.sets c.loop-n.joined c.loop-n.invariant.further (sets_of a.list.now a.isles.now)
    c.requires.sets c.requires.laid_out in
    held_by_cells a.rule.now a.list.now (sets_of a.list.now c.loop-n.sets) (cells a.list.now) refl laid.whole
    (λ k d h. c.loop-n.invariant.settled e k d (let past = c.loop-n-test.false in let end = c.len-n-end.ensures ∙ size-cells c.args.list.now in omega arith))
