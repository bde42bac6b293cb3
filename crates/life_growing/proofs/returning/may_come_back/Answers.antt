use Rattle.std.proofs.Common.{◌<◌, get_or, length, below_more, sym, ap, subst, ◌∙◌, true≢false, arith}
use Rattle.life_model.specs.Cell.{opposite, origin, plus}
use Rattle.life_model.specs.Generation.{contains}
use Rattle.life_ash.proofs.Finding.{of_none}
use Rattle.life_islands.proofs.Labelled.{listed_cell}
use Rattle.life_growing.specs.Returning.{ComesBackBy, IsMove}
use Rattle.life_growing.proofs.ComingBack.{move_to_one, moved_stands, steps_apart}
use Rattle.life_growing.proofs.returning.may_come_back.Goals.{in-Some+in_ok-may_come_back_by+else-branch, in_default}
use Rattle.life_growing.proofs.returning.may_come_back.Goals as goal

pub moved-requires-clause-by : goal.moved-requires-clause-by
moved-requires-clause-by g c =
    subst IsMove (sym c.move_between-by.ensures)
    (steps_apart (c.as_slice.ensures.placed c.args.ends.first origin (subst (λ cs. c.args.ends.first < length cs) (sym c.as_slice.ensures.cells) c.requires.first))
    (c.as_slice-all.ensures.placed c.loop-n.n origin c.loop-n-test.true))

pub may_come_back_by-requires-clause-by : goal.may_come_back_by-requires-clause-by
may_come_back_by-requires-clause-by g c =
    subst IsMove (sym c.move_between-by.ensures)
    (steps_apart (c.as_slice.ensures.placed c.args.ends.first origin (subst (λ cs. c.args.ends.first < length cs) (sym c.as_slice.ensures.cells) c.requires.first))
    (c.as_slice-all.ensures.placed c.loop-n.n origin c.loop-n-test.true))

pub loop-n-preserved : goal.loop-n-preserved
loop-n-preserved g c =
    let R = c.args.rule.now in
    let b = c.args.bound in
    let E = c.args.cells.now in
    let G = c.args.later.now in
    let by = plus (get_or c.as_slice-all.result.now c.loop-n.n origin)
    (opposite (get_or c.as_slice.result.now c.args.ends.first origin)) in
    below_more _ _ c.loop-n.invariant
    (λ back. elim c.match-index_near.branch [
      | in-Some+in_ok-may_come_back_by+else-branch w ↦
          w.in_ok-may_come_back_by.ensures.no w.if-branch.false
          (subst (ComesBackBy R b E G) (sym c.move_between-by.ensures) back)
      | in_default w ↦
          true≢false (sym (moved_stands E G by (get_or c.as_slice-2.result.now c.args.ends.last origin) back.among
          (listed_cell E c.as_slice-2.result.now c.args.ends.last c.as_slice-2.ensures.cells
          (subst (λ cs. c.args.ends.last < length cs) (sym c.as_slice-2.ensures.cells) c.requires.last)))
          ∙ ap (contains G) (sym (c.moved.ensures ∙ ap (plus (get_or c.as_slice-2.result.now c.args.ends.last origin)) c.move_between-by.ensures))
          ∙ of_none w.in_default.is c.index_near.ensures.none)
    ])

pub returns : goal.returns
returns g c = record {
  no = λ same d back.
      let R = c.args.rule.now in
      let b = c.args.bound in
      let E = c.args.cells.now in
      let G = c.args.later.now in
      let at = move_to_one E G c.as_slice.result.now c.as_slice-all.result.now c.args.ends.first d
      c.as_slice.ensures.cells c.as_slice-all.ensures.cells
      (subst (λ cs. c.args.ends.first < length cs) (sym c.as_slice.ensures.cells) c.requires.first) back.among in
      let past = c.loop-n-test.false in
      let here = at.1 in
      c.loop-n.invariant at.0 (omega arith) (subst (ComesBackBy R b E G) (sym at.2) back);
}
