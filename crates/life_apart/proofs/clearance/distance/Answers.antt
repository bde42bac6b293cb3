use Rattle.std.proofs.Common.{inl, inr, sym, subst, ◌∙◌, arith}
use Rattle.std.specs.List.{All}
use Rattle.std.proofs.lemmas.Int.{ints}
use Rattle.life_model.specs.Cell.{origin}
use Rattle.life_orbit.proofs.Lists.{all_more}
use Rattle.life_apart.proofs.Boxes.{IsOwnOrFarOff, far_from_others, less_far, own_or_less_far}
use Rattle.life_apart.proofs.clearance.distance.Goals as goal
use Rattle.life_apart.proofs.clearance.distance.Goals.{then-far-lt3+else-not-has, else-far-lt3}

pub loop-cell-preserved : goal.loop-cell-preserved
loop-cell-preserved c =
    let P = c.args.set.now in
    let b = c.bounds_of-bounds.result in
    let all = c.as_slice-cell-items.result.now in
    let i = c.loop-cell.cell-index in
    let at = c.loop-cell.invariant in
    elim c.if-far-lt3.branch [
      | then-far-lt3+else-not-has w ↦
          record {
            most = omega (arith, ints);
            known = all_more (IsOwnOrFarOff P b _) all i origin c.loop-cell-test.true
                (λ k d below. own_or_less_far P b _ _ _ (omega (arith, ints)) (at.known k d below))
                (inl (sym w.has.ensures ∙ w.if-not-has.false));
          }
      | else-far-lt3 w ↦
          record {
            most = omega (arith, ints);
            known = all_more (IsOwnOrFarOff P b _) all i origin c.loop-cell-test.true
                (λ k d below. own_or_less_far P b _ _ _ (omega (arith, ints)) (at.known k d below))
                (inr (less_far b _ _ _ (omega (arith, ints)) c.distance-far.ensures));
          }
    ]

pub returns-clause-far : goal.returns-clause-far
returns-clause-far c n Q far within apart =
    far_from_others c.args.set.now c.args.cells.now Q c.bounds_of-bounds.result _ n c.bounds_of-bounds.ensures
    (subst (All (IsOwnOrFarOff c.args.set.now c.bounds_of-bounds.result _)) c.as_slice-cell-items.ensures.cells
    (λ k d below. c.loop-cell.invariant.known k d (omega (arith, c.loop-cell-test.false))))
    far within apart
