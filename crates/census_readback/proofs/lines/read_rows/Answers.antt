use Rattle.std.proofs.Common.{sym, ap, ◌∙◌, ◌++◌, ◌∷◌, [], append_assoc}
use Rattle.std.proofs.lemmas.List.{append-nil}
use Rattle.census_readback.proofs.Walks.{passed-whole, passed-more, passed-start}
use Rattle.census_readback.proofs.lines.read_rows.Goals as goal

pub loop-first-init : goal.loop-first-init
loop-first-init c = (passed-start c.args.text.now, sym (append-nil c.args.rows.now))

pub loop-first-preserved : goal.loop-first-preserved
loop-first-preserved c =
    let before = c.loop-first.invariant.0 in (
      passed-more c.args.text.now c.loop-first.rest.now c.in-Some.first.row c.in-Some.first.rest.now before c.in-Some.ensures.sound.0 c.in-Some.ensures.sound.1 c.in-Some.ensures.all,
      c.in_ok-push.ensures ∙ ap (λ w. w ++ c.in-Some.first.row ∷ []) c.loop-first.invariant.1 ∙ append_assoc c.args.rows.now before.done (c.in-Some.first.row ∷ []),
    )

pub returns : goal.returns
returns c =
    let ends = passed-whole c.args.text.now c.loop-first.rest.now c.loop-first.invariant.0 c.in_default.ensures.all in
    (ends.0, c.loop-first.invariant.1 ∙ ap (λ w. c.args.rows.now ++ w) (sym ends.1))
