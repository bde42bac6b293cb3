use Rattle.std.proofs.Common.{ap, refl, sym, subst}
use Rattle.std.proofs.lemmas.List.Elements.{All-same}
use Rattle.life_cells.specs.Limits.{IsPlace}
use Rattle.life_strays.specs.Strays.{IsHeir}
use Rattle.life_strays.proofs.Yielded.{one_more}
use Rattle.life_strays.proofs.heirs.push_three.Goals as goal
use Rattle.life_strays.proofs.heirs.push_three.Goals.{then-word-n-eq1+then-is_place+in_ok-push, else-word-n-eq1}

pub loop-n-preserved : goal.loop-n-preserved
loop-n-preserved c =
    let at = c.loop-n.invariant in
    let place = c.east_of-place.result in
    elim c.if-word-n-eq1.branch [
      | then-word-n-eq1+then-is_place+in_ok-push w ↦
          let same = ap (λ v. v.items) w.heirs-is in
          let more = w.in_ok-push.ensures.items in
          record {
            placed = All-same IsPlace _ _ same (one_more IsPlace _ _ place more at.placed (w.if-is_place.ensures refl));
            heirs = λ G K each all. All-same (IsHeir G K) _ _ same
                (one_more (IsHeir G K) _ _ place more (at.heirs G K each all)
                (subst (IsHeir G K) (sym c.east_of-place.ensures) (each c.loop-n.n c.loop-n-test.true w.if-word-n-eq1.true)));
          }
      | else-word-n-eq1 w ↦
          let same = ap (λ v. v.items) w.heirs-is in
          record {
            placed = All-same IsPlace _ _ same at.placed;
            heirs = λ G K each all. All-same (IsHeir G K) _ _ same (at.heirs G K each all);
          }
    ]
