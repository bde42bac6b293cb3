use Rattle.std.proofs.Common.{◌≡◌, ℕ, List, length, map, sym, ap, subst, ◌∙◌}
use Rattle.life_model.specs.Generation.{Generation, cells}
use Rattle.life_classes.specs.declared.labels.Labelled.{Labelled}
use Rattle.life_classes.specs.declared.tags.Tag.{Tag}
use Rattle.life_classes.specs.Labels.{AreBornOrOld, AreHeirs, AreLabelled, classes_by}
use Rattle.life_classes.specs.Ties.{AreOneOrListed}
use Rattle.life_classes.specs.Tracking.{LeadTo, moved_on}
use Rattle.life_classes.proofs.Born.{apart_by_near}
use Rattle.life_classes.proofs.Inherited.{classes_then}
use Rattle.life_classes.proofs.Numbers.{relabelled}
use Rattle.life_classes.proofs.Settled.{settled}
use Rattle.life_classes.proofs.split.followed.Goals as goal

heirs_as : (old : Labelled) (f g : List ℕ) (G H : Generation) (ts : List Tag) → g ≡ f → H ≡ G →
    AreHeirs old g (cells G) (length (cells G)) ts → AreHeirs old f (cells H) (length (cells H)) ts
heirs_as old f g G H ts same is heirs =
    subst (λ K. AreHeirs old f (cells K) (length (cells K)) ts) (sym is)
    (subst (λ h. AreHeirs old h (cells G) (length (cells G)) ts) same heirs)

pub join_born-requires-clause-others : goal.join_born-requires-clause-others
join_born-requires-clause-others c =
    let old = c.args.split.last in
    let f = c.args.split.forest.items in
    let new = c.in_ok-heirs.heirs.cells in
    let told = c.in_ok-heirs.ensures in
    let born = c.in_ok-heirs.heirs.born.items in
    let same = c.as_slice.ensures.value in
    subst (AreOneOrListed new f) (sym c.as_slice-2.ensures.value)
    (settled c.args.split.first old new f c.requires.labelled.last (subst (AreLabelled new) same told.labelled) c.requires.apart
    (heirs_as old f c.as_slice.result.now c.args.cells new.cells new.tags.items same told.cells told.heirs) born
    (subst (λ H. AreBornOrOld old (cells H) (length (cells H)) born) (sym told.cells) told.born))

pub returns-clause-tracked : goal.returns-clause-tracked
returns-clause-tracked c =
    let a = c.args.split.first in
    let old = c.args.split.last in
    let f = c.args.split.forest.items in
    let g = c.join_born.new.forest.items in
    let new = c.in_ok-heirs.heirs.cells in
    let told = c.in_ok-heirs.ensures in
    let same = c.as_slice.ensures.value in
    subst (λ cs. LeadTo cs (classes_by a new g))
    (sym (classes_then a old new f c.requires.labelled.last (subst (AreLabelled new) same told.labelled) c.requires.apart
    (heirs_as old f c.as_slice.result.now c.args.cells new.cells new.tags.items same told.cells told.heirs))
    ∙ ap (λ H. map (moved_on H) (classes_by a old f)) told.cells) (c.join_born.ensures.tied.leads a)

pub returns-clause-apart : goal.returns-clause-apart
returns-clause-apart c =
    let f = c.args.split.forest.items in
    let g = c.join_born.new.forest.items in
    let new = c.in_ok-heirs.heirs.cells in
    apart_by_near new g
    (relabelled new f g c.join_born.ensures.tied.long
    (subst (AreLabelled new) c.as_slice.ensures.value c.in_ok-heirs.ensures.labelled)) c.join_born.ensures.near c.args.split.first
