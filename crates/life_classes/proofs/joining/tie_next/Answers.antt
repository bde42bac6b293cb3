use Rattle.std.proofs.Common.{◌≡◌, ◌<◌, length, pos, get_or, ap, ◌∙◌, arith}
use Rattle.std.proofs.lemmas.Int.{ints}
use Rattle.std.proofs.lemmas.List.{get_or_default}
use Rattle.life_classes.specs.declared.tags.Tag.{Tag}
use Rattle.life_classes.proofs.Numbers.{away_near}
use Rattle.life_classes.proofs.joining.tie_next.Goals as goal

pub returns-then-tags-at-clause-next : goal.returns-then-tags-at-clause-next
returns-then-tags-at-clause-next c d inside near =
    let ts = c.args.cells.now.tags.items in
    let t : Tag = record { number = pos 0; label = 0 } in
    let far = c.if-tags-at.true in
    let fits = c.ranges.number in
    let high = c.requires.high in
    let here : (get_or c.as_slice-tags.result.now c.args.at t).number ≡ (get_or ts c.args.at d).number =
    ap (λ us. (get_or us c.args.at t).number) c.as_slice-tags.ensures.value
    ∙ ap (λ (s : Tag). s.number) (get_or_default ts c.args.at t d inside) in
    absurd (omega (arith, ints))

pub tie-requires-clause-near : goal.tie-requires-clause-near
tie-requires-clause-near c =
    let ts = c.args.cells.now.tags.items in
    let t : Tag = record { number = pos 0; label = 0 } in
    let past = c.if-at-tags.false in
    let long = ap length c.as_slice-tags.ensures.value in
    let inside : c.args.at < length ts = omega arith in
    let near = c.if-tags-at.false in
    let fits = c.ranges.number in
    let low = c.requires.low in
    let high = c.requires.high in
    let least = c.requires.least c.args.at t (omega arith) inside in
    let here : (get_or c.as_slice-tags.result.now c.args.at t).number ≡ (get_or ts c.args.at t).number =
    ap (λ us. (get_or us c.args.at t).number) c.as_slice-tags.ensures.value in
    away_near c.args.cells.now c.requires.labelled.tagged c.args.at c.args.n c.args.number t inside c.requires.inside
    c.requires.away (omega (arith, ints)) (omega (arith, ints))
