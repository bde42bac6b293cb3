use Rattle.std.proofs.Common.{◌≡◌, of_z, to_z, w64, ap, ◌∙◌, arith}
use Rattle.std.proofs.lemmas.Int.{ints}
use Rattle.std.proofs.lemmas.List.{get_or_default}
use Rattle.life_classes.specs.declared.tags.Tag.{Tag}
use Rattle.life_classes.proofs.Numbers.{tags_numbered}
use Rattle.life_classes.proofs.joining.number_at.Goals as goal

pub returns-clause-same : goal.returns-clause-same
returns-clause-same c d =
    let ts = c.args.cells.now.tags.items in
    let numbered = tags_numbered c.args.cells.now c.requires.tagged c.args.n c.index.result.now c.requires.inside in
    let low = numbered.low in
    let high = numbered.high in
    let its = ap (λ (t : Tag). t.number) c.index.ensures in
    let back : to_z w64 (of_z w64 c.index.result.now.number) ≡ c.index.result.now.number = omega (arith, ints) in
    back ∙ ap (λ (t : Tag). t.number) (c.index.ensures ∙ get_or_default ts c.args.n c.index.result.now d c.requires.inside)

pub returns-clause-low : goal.returns-clause-low
returns-clause-low c =
    let numbered = tags_numbered c.args.cells.now c.requires.tagged c.args.n c.index.result.now c.requires.inside in
    let low = numbered.low in
    let high = numbered.high in
    let same = ap (λ (t : Tag). t.number) c.index.ensures in
    omega (arith, ints)

pub returns-clause-high : goal.returns-clause-high
returns-clause-high c =
    let numbered = tags_numbered c.args.cells.now c.requires.tagged c.args.n c.index.result.now c.requires.inside in
    let low = numbered.low in
    let high = numbered.high in
    let same = ap (λ (t : Tag). t.number) c.index.ensures in
    omega (arith, ints)
