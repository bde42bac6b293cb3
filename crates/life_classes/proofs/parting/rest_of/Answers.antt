use Rattle.std.proofs.Common.{length, sym, subst}
use Rattle.life_model.specs.Generation.{cells}
use Rattle.life_classes.specs.Parted.{AreLabelsOr, AreOthers}
use Rattle.life_classes.proofs.Taken.{is_rest}
use Rattle.life_classes.proofs.Relabelled.{labelled_or}
use Rattle.life_classes.proofs.parting.rest_of.Goals as goal

pub returns-clause-labelled : goal.returns-clause-labelled
returns-clause-labelled c =
    let l = c.args.cells.now in
    let rest = c.in_ok-rest.rest in
    let labels = subst (λ G. AreLabelsOr l c.args.main (cells G) (length (cells G)) rest.tags.items)
    (sym c.in_ok-rest.ensures.cells) c.in_ok-rest.ensures.labels in
    labelled_or rest l c.args.main c.args.forest.now c.in_ok-rest.ensures.tagged c.requires.labelled.tagged labels
    c.requires.labelled c.requires.within

pub returns-clause-rest : goal.returns-clause-rest
returns-clause-rest c =
    let l = c.args.cells.now in
    let f = c.args.forest.now in
    let rest = c.in_ok-rest.rest in
    let labels = subst (λ G. AreLabelsOr l c.args.main (cells G) (length (cells G)) rest.tags.items)
    (sym c.in_ok-rest.ensures.cells) c.in_ok-rest.ensures.labels in
    is_rest l rest f c.args.main c.requires.labelled.tagged c.in_ok-rest.ensures.tagged
    (subst (AreOthers l f c.args.main) (sym c.in_ok-rest.ensures.cells) c.in_ok-others.ensures) labels
