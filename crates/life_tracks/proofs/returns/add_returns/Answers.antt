use Rattle.std.proofs.Common.{ap, ◌∙◌}
use Rattle.life_tracks.proofs.Adding.{back_in, none_added, one_added}
use Rattle.life_tracks.proofs.returns.add_returns.Goals.{then-lines-place+in_ok-push, else-lines-place}
use Rattle.life_tracks.proofs.returns.add_returns.Goals as goal

pub loop-place-preserved : goal.loop-place-preserved
loop-place-preserved c =
    let lines = c.args.lines.now in
    let n = c.args.generation in
    let place = c.loop-place.place in
    let old = c.args.found.now.items in
    let found = c.loop-place.found.items in
    elim c.if-lines-place.branch [
      | then-lines-place+in_ok-push w ↦
          one_added lines n place old found c.loop-place.invariant c.if-lines-place.found.items
          (back_in lines n place old found c.loop-place.invariant c.loop-place-test.true w.if-lines-place.true)
          (ap (λ v. v.items) w.found-is ∙ w.in_ok-push.ensures.items)
      | else-lines-place w ↦
          none_added lines n place old found c.loop-place.invariant c.if-lines-place.found.items w.if-lines-place.false
          (ap (λ v. v.items) w.found-is)
    ]
