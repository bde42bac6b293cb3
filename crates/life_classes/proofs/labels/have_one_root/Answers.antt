use Rattle.std.proofs.Common.{◌≡◌, get_or, ap, ◌∙◌, arith}
use Rattle.std.proofs.lemmas.List.{get_or_default}
use Rattle.life_classes.specs.declared.tags.Tag.{Tag}
use Rattle.life_classes.specs.Forest.{root}
use Rattle.life_classes.proofs.labels.have_one_root.Goals as goal

pub loop-n-init : goal.loop-n-init
loop-n-init c k d e below h =
    let ts = c.args.cells.now.tags.items in
    let f = c.args.forest.now in
    let first : k ≡ 0 = omega arith in
    ap (λ (t : Tag). root f t.label) (ap (λ n. get_or ts n d) first ∙ get_or_default ts 0 d e (omega arith))
