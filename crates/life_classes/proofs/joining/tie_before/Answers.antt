use Rattle.std.proofs.Common.{◌≡◌, ◌-◌, pos, get_or, ap, ◌∙◌, arith}
use Rattle.std.proofs.lemmas.Int.{ints}
use Rattle.std.proofs.lemmas.List.{get_or_default}
use Rattle.life_classes.specs.declared.tags.Tag.{Tag}
use Rattle.life_classes.proofs.Numbers.{before_near}
use Rattle.life_classes.proofs.joining.tie_before.Goals as goal

pub returns-then-tags-n-clause-before : goal.returns-then-tags-n-clause-before
returns-then-tags-n-clause-before c d some near =
    let ts = c.args.cells.now.tags.items in
    let t : Tag = record { number = pos 0; label = 0 } in
    let far = c.if-tags-n.true in
    let fits = c.ranges.number in
    let low = c.requires.low in
    let is = c.requires.same d in
    let here : (get_or c.as_slice-tags.result.now (c.args.n - 1) t).number ≡ (get_or ts (c.args.n - 1) d).number =
    ap (λ us. (get_or us (c.args.n - 1) t).number) c.as_slice-tags.ensures.value
    ∙ ap (λ (s : Tag). s.number) (get_or_default ts (c.args.n - 1) t d (let inside = c.requires.inside in omega arith)) in
    absurd (omega (arith, ints))

pub tie-requires-clause-near : goal.tie-requires-clause-near
tie-requires-clause-near c =
    let ts = c.args.cells.now.tags.items in
    let t : Tag = record { number = pos 0; label = 0 } in
    let some = c.if-n-eq0.false in
    let near = c.if-tags-n.false in
    let fits = c.ranges.number in
    let low = c.requires.low in
    let here : (get_or c.as_slice-tags.result.now (c.args.n - 1) t).number ≡ (get_or ts (c.args.n - 1) t).number =
    ap (λ us. (get_or us (c.args.n - 1) t).number) c.as_slice-tags.ensures.value in
    before_near c.args.cells.now c.requires.labelled.tagged c.args.n c.args.number t (omega arith) c.requires.inside
    (c.requires.same t) (omega (arith, ints))
