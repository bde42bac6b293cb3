use Rattle.std.proofs.Common.{length, sym, subst}
use Rattle.life_model.specs.Generation.{cells}
use Rattle.life_classes.specs.Parted.{AreLabelsOr}
use Rattle.life_classes.proofs.parting.with_herd.Goals as goal

pub returns-clause-labels : goal.returns-clause-labels
returns-clause-labels c =
    subst (λ G. AreLabelsOr c.args.rest.now c.args.label (cells G) (length (cells G)) c.in_ok-all.all.tags.items)
    (sym c.in_ok-all.ensures.cells) c.in_ok-all.ensures.labels
