use Rattle.std.proofs.Common.{pos, ap, ◌∙◌}
use Rattle.std.proofs.lemmas.List.Elements.{All-same}
use Rattle.life_cells.specs.Limits.{IsPlace}
use Rattle.life_strays.specs.Strays.{IsHeir}
use Rattle.life_strays.proofs.Places.{listed_cell, of_listed}
use Rattle.life_strays.proofs.heirs.heirs_of.Goals as goal
use Rattle.life_strays.proofs.heirs.heirs_of.Goals.{then-n-every-eq0+in_ok-push_heirs, else-n-every-eq0}

pub loop-n-preserved : goal.loop-n-preserved
loop-n-preserved g c =
    let K = c.args.cells.now in
    let are = IsHeir (g.P.Plane.members c.args.plane.now) K in
    let at = c.loop-n.invariant in
    elim c.if-n-every-eq0.branch [
      | then-n-every-eq0+in_ok-push_heirs w ↦
          let same = ap (λ v. v.items) w.heirs-is in
          let more = w.in_ok-push_heirs.ensures in
          let here = listed_cell K c.as_slice-all.result.now c.loop-n.n (pos 0, pos 0) c.as_slice-all.ensures.cells
          c.loop-n-test.true in
          record {
            placed = All-same IsPlace _ _ same more.placed;
            heirs = All-same are _ _ same (more.heirs K here at.heirs);
          }
      | else-n-every-eq0 w ↦
          let same = ap (λ v. v.items) w.heirs-is in
          record { placed = All-same IsPlace _ _ same at.placed; heirs = All-same are _ _ same at.heirs }
    ]

pub returns : goal.returns
returns g c cell here =
    of_listed (IsHeir (g.P.Plane.members c.args.plane.now) c.args.cells.now) c.loop-n.heirs.items c.from_ordered.result cell
    (c.from_ordered.ensures ∙ c.put_in_order.ensures.same) c.loop-n.invariant.heirs here
