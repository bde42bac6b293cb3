use Rattle.std.proofs.Common.{sym, ap, ◌∙◌}
use Rattle.life_model.specs.Evolution.{generation}
use Rattle.life_classes.proofs.Lone.{classes_later, labelled_then}
use Rattle.life_classes.proofs.Wholes.{one_root_by_few}
use Rattle.life_classes.proofs.splitting.lone_class_later.Goals as goal

pub returns-clause-labelled : goal.returns-clause-labelled
returns-clause-labelled g c =
    let s = c.args.split in
    let R = c.args.rule.now in
    let f = s.forest.items in
    let one = one_root_by_few s.last f c.requires.labelled.last s.first c.requires.few in
    let is = c.in_ok-last.ensures.cells ∙ c.in_ok-cells.ensures.cells ∙ c.in_ok-later.ensures
    ∙ ap (λ H. generation R H c.args.count) (sym c.requires.cells) in
    record {
      first = c.requires.labelled.first;
      last =
          labelled_then R c.args.count s.last c.in_ok-last.last f c.requires.labelled.last one c.in_ok-last.ensures.tagged is
          c.first_label-label.result c.in_ok-last.ensures.alike c.first_label-label.ensures;
    }

pub returns-clause-later : goal.returns-clause-later
returns-clause-later g c =
    let s = c.args.split in
    let R = c.args.rule.now in
    let f = s.forest.items in
    let one = one_root_by_few s.last f c.requires.labelled.last s.first c.requires.few in
    let is = c.in_ok-last.ensures.cells ∙ c.in_ok-cells.ensures.cells ∙ c.in_ok-later.ensures
    ∙ ap (λ H. generation R H c.args.count) (sym c.requires.cells) in
    classes_later R c.args.count s.last c.in_ok-last.last f c.requires.labelled.last one c.in_ok-last.ensures.tagged is
    c.first_label-label.result c.in_ok-last.ensures.alike c.first_label-label.ensures s.first
