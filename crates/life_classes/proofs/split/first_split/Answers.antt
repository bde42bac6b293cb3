use Rattle.std.proofs.Common.{◌≡◌, length, sym, ap, subst, ◌∙◌}
use Rattle.life_model.specs.Generation.{cells}
use Rattle.life_classes.specs.Labels.{classes_by}
use Rattle.life_classes.specs.Tracking.{LeadTo}
use Rattle.life_classes.proofs.Numbers.{relabelled}
use Rattle.life_classes.proofs.Singles.{all_alone}
use Rattle.life_classes.proofs.Tied.{apart_by_ties}
use Rattle.life_classes.proofs.split.first_split.Goals as goal

pub join_near-requires : goal.join_near-requires
join_near-requires c =
    let f = c.in_ok-forest.forest.items in
    let many : length f ≡ length (cells c.args.last) =
    c.in_ok-forest.ensures.long ∙ ap length c.as_slice.ensures.cells ∙ ap (λ H. length (cells H)) (sym c.requires) in
    record { labelled = c.in_ok-last.ensures.labelled f many }

pub returns-clause-labelled : goal.returns-clause-labelled
returns-clause-labelled c =
    let f = c.in_ok-forest.forest.items in
    let g = c.join_near.new.forest.items in
    let many : length f ≡ length (cells c.args.first) = c.in_ok-forest.ensures.long ∙ ap length c.as_slice.ensures.cells in
    let many_too : length f ≡ length (cells c.args.last) = many ∙ ap (λ H. length (cells H)) (sym c.requires) in
    record {
      first = relabelled c.in_ok-first.first f g c.join_near.ensures.tied.long (c.in_ok-first.ensures.labelled f many);
      last = relabelled c.in_ok-last.last f g c.join_near.ensures.tied.long (c.in_ok-last.ensures.labelled f many_too);
    }

pub returns-clause-tracked : goal.returns-clause-tracked
returns-clause-tracked c =
    let f = c.in_ok-forest.forest.items in
    let g = c.join_near.new.forest.items in
    let a = c.in_ok-first.first in
    let l = c.in_ok-last.last in
    let many : length f ≡ length (cells c.args.first) = c.in_ok-forest.ensures.long ∙ ap length c.as_slice.ensures.cells in
    let many_too : length f ≡ length (cells c.args.last) = many ∙ ap (λ H. length (cells H)) (sym c.requires) in
    let first = c.in_ok-first.ensures.labelled f many in
    let last = c.in_ok-last.ensures.labelled f many_too in
    subst (λ cs. LeadTo cs (classes_by a l g))
    (sym (all_alone f c.in_ok-forest.ensures.roots a l c.args.first first.tagged last.tagged c.in_ok-first.ensures.own
    c.in_ok-last.ensures.own c.in_ok-first.ensures.cells (c.in_ok-last.ensures.cells ∙ c.requires) many))
    (c.join_near.ensures.tied.leads a)

pub returns-clause-apart : goal.returns-clause-apart
returns-clause-apart c =
    let f = c.in_ok-forest.forest.items in
    let g = c.join_near.new.forest.items in
    let l = c.in_ok-last.last in
    let many : length f ≡ length (cells c.args.first) = c.in_ok-forest.ensures.long ∙ ap length c.as_slice.ensures.cells in
    let many_too : length f ≡ length (cells c.args.last) = many ∙ ap (λ H. length (cells H)) (sym c.requires) in
    apart_by_ties l g (relabelled l f g c.join_near.ensures.tied.long (c.in_ok-last.ensures.labelled f many_too))
    c.join_near.ensures.all c.in_ok-first.first
