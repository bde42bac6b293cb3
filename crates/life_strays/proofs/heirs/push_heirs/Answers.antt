use Rattle.std.proofs.Common.{ap}
use Rattle.std.proofs.lemmas.List.Elements.{All-same}
use Rattle.life_cells.specs.Limits.{IsPlace}
use Rattle.life_strays.specs.Strays.{IsHeir}
use Rattle.life_strays.proofs.Places.{heir_by_row}
use Rattle.life_strays.proofs.heirs.push_heirs.Goals as goal
use Rattle.life_strays.proofs.heirs.push_heirs.Goals.{then-is_place+in_ok-push_three, else-is_place}

pub loop-n-preserved : goal.loop-n-preserved
loop-n-preserved g c =
    let G = g.P.Plane.members c.args.plane.now in
    let at = c.loop-n.invariant in
    let first = c.corner-first.result in
    elim c.if-is_place.branch [
      | then-is_place+in_ok-push_three w ↦
          let same = ap (λ v. v.items) w.heirs-is in
          let more = w.in_ok-push_three.ensures in
          record {
            placed = All-same IsPlace _ _ same more.placed;
            heirs = λ K here all. All-same (IsHeir G K) _ _ same
                (more.heirs G K
                (λ j less set. heir_by_row G K c.args.cell first w.row.result c.loop-n.n j w.row.ensures here
                c.corner-first.ensures c.loop-n-test.true less set)
                (at.heirs K here all));
          }
      | else-is_place w ↦
          let same = ap (λ v. v.items) w.heirs-is in
          record {
            placed = All-same IsPlace _ _ same at.placed;
            heirs = λ K here all. All-same (IsHeir G K) _ _ same (at.heirs K here all);
          }
    ]
