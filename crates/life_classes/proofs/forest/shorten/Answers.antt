use Rattle.std.proofs.Common.{◌≡◌, ap, ◌∙◌, arith}
use Rattle.life_classes.specs.Forest.{root}
use Rattle.life_classes.proofs.Forests.{root-le_up, root-root, root-set_within, sum-set-le}
use Rattle.life_classes.proofs.forest.shorten.Goals as goal

pub returns-then-to-number-clause-same : goal.returns-then-to-number-clause-same
returns-then-to-number-clause-same c =
    let f = c.args.forest.now.items in
    let to : c.root-to.result ≡ root f c.args.number =
    c.root-to.ensures.value ∙ ap (λ h. root h c.args.number) c.as_slice.ensures.value in
    root-set_within f c.args.number c.root-to.result c.requires c.if-to-number.true (ap (root f) to ∙ root-root f c.args.number)

pub returns-then-to-number-clause-less : goal.returns-then-to-number-clause-less
returns-then-to-number-clause-less c =
    let f = c.args.forest.now.items in
    let to : c.root-to.result ≡ root f c.args.number =
    c.root-to.ensures.value ∙ ap (λ h. root h c.args.number) c.as_slice.ensures.value in
    let up = root-le_up f c.args.number in
    sum-set-le f c.args.number c.root-to.result c.requires c.if-to-number.true (omega arith)
