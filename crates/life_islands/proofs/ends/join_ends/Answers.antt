use Rattle.std.proofs.Common.{◌≡◌, ◌+◌, false, length, set, ap, refl, subst, sym, ◌∙◌, arith}
use Rattle.std.proofs.lemmas.List.{length-map}
use Rattle.std.proofs.lemmas.Result.{IfOk-at_ok}
use Rattle.std.proofs.lemmas.Bool.{or_right}
use Rattle.life_islands.specs.declared.labels.Labels.{Labels}
use Rattle.life_classes.specs.Forest.{IsJoined, root}
use Rattle.life_islands.proofs.Ended.{AreEndedSo, both_within, ended_first, ended_join, ends_joined, mark_within, or_same, read_twice}
use Rattle.life_islands.proofs.ends.join_ends.Goals as goal
use Rattle.life_islands.proofs.ends.join_ends.Goals.{then-first-count, else-first-count+then-join, else-first-count+else-join}

pub index-first-requires : goal.index-first-requires
index-first-requires c =
    let old = c.args.ends.now in
    let at = c.loop-n.invariant in
    let within =
    mark_within old c.len-count.result c.in_ok-marks.marks.items c.requires.long c.requires.below (omega (arith, c.len-count.ensures))
    c.in_ok-marks.ensures c.loop-n.n c.loop-n-test.true c.index.result.now c.index.ensures c.loop-n.ends c.loop-n.firsts.items
    c.loop-n.joined (record { further = at.further; firsts = at.firsts; tied = at.tied }) in
    omega arith

pub index_mut-requires : goal.index_mut-requires
index_mut-requires c =
    let old = c.args.ends.now in
    let at = c.loop-n.invariant in
    let within =
    mark_within old c.len-count.result c.in_ok-marks.marks.items c.requires.long c.requires.below (omega (arith, c.len-count.ensures))
    c.in_ok-marks.ensures c.loop-n.n c.loop-n-test.true c.index-then-first-count.result.now c.index-then-first-count.ensures
    c.loop-n.ends c.loop-n.firsts.items c.loop-n.joined (record { further = at.further; firsts = at.firsts; tied = at.tied }) in
    omega arith

pub join-requires : goal.join-requires
join-requires c =
    let old = c.args.ends.now in
    let at = c.loop-n.invariant in
    both_within old c.len-count.result c.in_ok-marks.marks.items c.requires.long c.requires.below (omega (arith, c.len-count.ensures))
    c.in_ok-marks.ensures c.loop-n.n c.loop-n-test.true c.index.result.now c.index.ensures c.loop-n.ends c.loop-n.firsts.items
    c.loop-n.joined (record { further = at.further; firsts = at.firsts; tied = at.tied })
    c.index-first.result.now c.index-first.ensures c.if-first-count.false

pub loop-n-preserved : goal.loop-n-preserved
loop-n-preserved c =
    let old = c.args.ends.now in
    let at = c.loop-n.invariant in
    let now = c.loop-n.ends in
    let first = c.index-first.result.now in
    let after = c.if-first-count in
    let so : AreEndedSo old c.len-count.result c.in_ok-marks.marks.items c.loop-n.n now c.loop-n.firsts.items c.loop-n.joined =
    record { further = at.further; firsts = at.firsts; tied = at.tied } in
    let next : AreEndedSo old c.len-count.result c.in_ok-marks.marks.items (c.loop-n.n + 1) after.ends after.firsts.items after.joined =
    elim c.if-first-count.branch [
      | then-first-count w ↦
          ended_first old c.len-count.result c.in_ok-marks.marks.items c.requires.long c.requires.below (omega (arith, c.len-count.ensures))
          c.in_ok-marks.ensures c.loop-n.n c.loop-n-test.true c.index.result.now c.index.ensures now c.loop-n.firsts.items
          c.loop-n.joined so first c.index-first.ensures w.if-first-count.true after.ends after.firsts.items after.joined
          w.ends-is
          (ap (λ v. v.items) w.firsts-is
          ∙ ap (λ k. set c.loop-n.firsts.items k c.loop-n.n)
          (read_twice c.in_ok-marks.marks.items c.loop-n.n w.index-then-first-count.result.now c.index.result.now
          (omega (arith, c.len-count.ensures, ap length c.in_ok-marks.ensures, length-map old.labels.items (root old.forest.items)))
          w.index-then-first-count.ensures c.index.ensures))
          w.joined-is
      | else-first-count+then-join w ↦
          ended_join old c.len-count.result c.in_ok-marks.marks.items c.requires.long c.requires.below (omega (arith, c.len-count.ensures))
          c.in_ok-marks.ensures c.loop-n.n c.loop-n-test.true c.index.result.now c.index.ensures now c.loop-n.firsts.items
          c.loop-n.joined so first c.index-first.ensures w.if-first-count.false after.ends after.firsts.items after.joined w.join.result
          (ap (λ (L : Labels). L.labels.items) w.ends-is)
          (subst (λ f. IsJoined now.forest.items f c.loop-n.n first w.join.result) (sym (ap (λ (L : Labels). L.forest.items) w.ends-is)) w.join.ensures)
          (ap (λ v. v.items) w.firsts-is) (w.joined-is ∙ sym (or_right c.loop-n.joined w.join.result w.if-join.true))
      | else-first-count+else-join w ↦
          ended_join old c.len-count.result c.in_ok-marks.marks.items c.requires.long c.requires.below (omega (arith, c.len-count.ensures))
          c.in_ok-marks.ensures c.loop-n.n c.loop-n-test.true c.index.result.now c.index.ensures now c.loop-n.firsts.items
          c.loop-n.joined so first c.index-first.ensures w.if-first-count.false after.ends after.firsts.items after.joined w.join.result
          (ap (λ (L : Labels). L.labels.items) w.ends-is)
          (subst (λ f. IsJoined now.forest.items f c.loop-n.n first w.join.result) (sym (ap (λ (L : Labels). L.forest.items) w.ends-is)) w.join.ensures)
          (ap (λ v. v.items) w.firsts-is) (w.joined-is ∙ or_same c.loop-n.joined w.join.result w.if-join.false)
    ] in
    record { further = next.further; firsts = next.firsts; tied = next.tied }

pub returns-clause-ended : goal.returns-clause-ended
returns-clause-ended c e m k h l same =
    let old = c.args.ends.now in
    let at = c.loop-n.invariant in
    let still : c.loop-n.joined ≡ false = IfOk-at_ok (λ b. c.loop-n.joined ≡ b) e refl in
    ends_joined old.labels.items old.forest.items c.in_ok-marks.marks.items c.in_ok-marks.ensures c.loop-n.firsts.items
    c.loop-n.ends.forest.items c.len-count.result (omega (arith, c.len-count.ensures)) (at.further.same still) c.loop-n.n
    c.loop-n-test.false at.firsts m k h l same
