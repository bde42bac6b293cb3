use Rattle.std.proofs.Common.{◌≡◌, ◌-◌, ◌<◌, length, pos, get_or, ap, ◌∙◌, arith}
use Rattle.std.proofs.lemmas.Int.{ints}
use Rattle.std.proofs.lemmas.List.{get_or_default}
use Rattle.life_classes.specs.declared.tags.Tag.{Tag}
use Rattle.life_classes.proofs.Numbers.{away_near}
use Rattle.life_classes.proofs.joining.tie_last.Goals as goal

pub returns-then-tags-at-clause-last : goal.returns-then-tags-at-clause-last
returns-then-tags-at-clause-last c d some near =
    let ts = c.args.cells.now.tags.items in
    let t : Tag = record { number = pos 0; label = 0 } in
    let far = c.if-tags-at.true in
    let fits = c.ranges.number in
    let low = c.requires.low in
    let within = c.requires.within in
    let here : (get_or c.as_slice-tags.result.now (c.args.at - 1) t).number ≡ (get_or ts (c.args.at - 1) d).number =
    ap (λ us. (get_or us (c.args.at - 1) t).number) c.as_slice-tags.ensures.value
    ∙ ap (λ (s : Tag). s.number) (get_or_default ts (c.args.at - 1) t d (omega arith)) in
    absurd (omega (arith, ints))

pub tie-requires-clause-near : goal.tie-requires-clause-near
tie-requires-clause-near c =
    let ts = c.args.cells.now.tags.items in
    let t : Tag = record { number = pos 0; label = 0 } in
    let some = c.if-at-eq0.false in
    let within = c.requires.within in
    let inside : c.args.at - 1 < length ts = omega arith in
    let near = c.if-tags-at.false in
    let fits = c.ranges.number in
    let low = c.requires.low in
    let high = c.requires.high in
    let less = c.requires.less (c.args.at - 1) t (omega arith) inside in
    let here : (get_or c.as_slice-tags.result.now (c.args.at - 1) t).number ≡ (get_or ts (c.args.at - 1) t).number =
    ap (λ us. (get_or us (c.args.at - 1) t).number) c.as_slice-tags.ensures.value in
    away_near c.args.cells.now c.requires.labelled.tagged (c.args.at - 1) c.args.n c.args.number t inside c.requires.inside
    c.requires.away (omega (arith, ints)) (omega (arith, ints))
