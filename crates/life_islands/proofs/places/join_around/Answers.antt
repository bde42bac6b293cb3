use Rattle.std.proofs.Common.{◌≡◌, refl, ◌<◌, false, length, get_or, below_more, inl, sym, subst, ◌∙◌, arith, true≢false}
use Rattle.life_model.specs.Cell.{origin}
use Rattle.life_model.specs.Generation.{cells, contains}
use Rattle.life_classes.specs.Forest.{root}
use Rattle.life_islands.specs.Labels.{AreJoinedFurther, sets_of}
use Rattle.life_islands.specs.Seats.{cell_at}
use Rattle.life_islands.specs.Splits.{IsSettled, IsSettledNear}
use Rattle.life_islands.proofs.Further.{further_laid, further_more, further_no_more, kept_through, same_sets}
use Rattle.life_islands.proofs.Labelled.{listed_cell}
use Rattle.life_islands.proofs.Placing.{of_one_near, settled_near}
use Rattle.life_islands.proofs.places.join_around.Goals as goal
use Rattle.life_islands.proofs.places.join_around.Goals.{After-neighbour, then-join_place, else-join_place}

pub returns-then-is_of_one-clause-settled : goal.returns-then-is_of_one-clause-settled
returns-then-is_of_one-clause-settled c _ x near place =
    let a = c.args in
    inl (of_one_near a.list.now a.sets.now c.requires.sets (get_or (cells a.list.now) a.n origin)
    (root a.sets.now.forest.items (get_or a.sets.now.labels.items a.n 0)) c.if-is_of_one.ensures x near)

pub join_place-requires-clause-reach : goal.join_place-requires-clause-reach
join_place-requires-clause-reach c =
    let all = c.as_slice.ensures in
    c.neighbour.ensures.placed (all.placed c.args.n origin (subst (λ ds. c.args.n < length ds) (sym all.cells) c.requires.within))

pub join_place-requires-clause-laid_out : goal.join_place-requires-clause-laid_out
join_place-requires-clause-laid_out c =
    let a = c.args in
    further_laid a.list.now a.sets.now c.loop-number.sets c.loop-number.joined c.loop-number.invariant.further
    (sets_of a.list.now a.isles.now) c.requires.sets c.requires.laid_out

pub loop-number-preserved : goal.loop-number-preserved
loop-number-preserved c =
    let a = c.args in
    let at = c.loop-number.invariant in
    let here = c.join_place.ensures in
    let G = a.list.now in
    let S = a.sets.now in
    let M = c.loop-number.sets in
    let N = c.join_place.new.sets in
    let cell = get_or c.as_slice.result.now a.n origin in
    let number = c.loop-number.number in
    record {
      further = elim c.if-join_place.branch [
        | then-join_place w ↦ subst (AreJoinedFurther S N) (sym w.joined-is) (further_more S M N c.loop-number.joined at.further
            (subst (AreJoinedFurther M N) w.if-join_place.true here.further))
        | else-join_place w ↦ subst (AreJoinedFurther S N) (sym w.joined-is) (further_no_more S M N c.loop-number.joined at.further
            (subst (AreJoinedFurther M N) w.if-join_place.false here.further))
      ];
      tied = kept_through a.rule.now a.list.now a.sets.now c.loop-number.sets c.join_place.new.sets at.further.labels at.tied here.tied;
      settled = λ e. elim c.if-join_place.branch [
        | then-join_place w ↦ absurd (true≢false (sym w.joined-is ∙ e))
        | else-join_place w ↦
            let same = same_sets G M N false (subst (AreJoinedFurther M N) w.if-join_place.false here.further) refl in
            below_more (λ k. contains G (cell_at cell k) ≡ false → IsSettled a.rule.now G (sets_of G N) (cell_at cell k)) number
            (λ k h place. subst (λ Hs. IsSettled a.rule.now G Hs (cell_at cell k)) (sym same) (at.settled (sym w.joined-is ∙ e) k h place))
            (subst (λ x. contains G x ≡ false → IsSettled a.rule.now G (sets_of G N) x)
            (c.neighbour.ensures.value (let h = c.loop-number-test.true in omega arith)) (here.settled w.if-join_place.false))
      ];
    }

pub returns-clause-settled : goal.returns-clause-settled
returns-clause-settled c e =
    let a = c.args in
    let G = a.list.now in
    let all = c.as_slice.ensures in
    let inside = subst (λ ds. a.n < length ds) (sym all.cells) c.requires.within in
    subst (λ ds. IsSettledNear a.rule.now G (sets_of G c.loop-number.sets) (get_or ds a.n origin)) all.cells
    (settled_near a.rule.now G (sets_of G c.loop-number.sets) (get_or c.as_slice.result.now a.n origin)
    (listed_cell G c.as_slice.result.now a.n all.cells inside)
    (λ k h. c.loop-number.invariant.settled e k (let past = c.loop-number-test.false in omega arith)))
