use Rattle.std.proofs.Common.{ℕ, ◌<◌, length, get_or, sym, subst, ◌∙◌, ap, add-one}
use Rattle.life_model.specs.Generation.{empty}
use Rattle.life_objects.specs.Union.{union_of}
use Rattle.life_growth.specs.Unsplit.{AreClasses}
use Rattle.life_objects.specs.Decided.Classes.{classes}
use Rattle.life_growth.proofs.EnginesLemmas.Classes.{are_classes}
use Rattle.life_islands.specs.Labels.{AreThoseWithCells, joined_sets}
use Rattle.life_tracks.specs.Frames.Frames.{IsBeside}
use Rattle.life_tracks.proofs.FramesLemmas.Step.{all_together, joined_are, later_touched, parents_are}
use Rattle.life_tracks.proofs.frames.frame.frame_before.Goals as goal

pub joined-requires : goal.joined-requires
joined-requires c = record { later = later_touched c.requires.0 c.args.list.now c.args.later.now c.requires.2.together }

pub parents-requires-clause-touched : goal.parents-requires-clause-touched
parents-requires-clause-touched c =
    later_touched c.requires.0 c.args.list.now c.args.later.now c.requires.2.together

pub parents-requires-clause-together : goal.parents-requires-clause-together
parents-requires-clause-together c =
    ap union_of c.as_slice-3.ensures.value
    ∙ all_together c.args.list.now c.in_ok-forest.forest.items c.in_ok-forest.ensures.long c.in_ok-classes.classes.items
    (subst (λ f. AreThoseWithCells (joined_sets c.args.list.now f) c.in_ok-classes.classes.items) c.as_slice.ensures.value
    c.in_ok-classes.ensures)

pub returns-clause-classes : goal.returns-clause-classes
returns-clause-classes c R b later =
    let G = c.args.list.now in
    let Ns = classes R G 1 in
    let f = c.in_ok-forest.forest.items in
    let Ps = c.in_ok-classes.classes.items in
    let those = subst (λ f. AreThoseWithCells (joined_sets G f) Ps) c.as_slice.ensures.value c.in_ok-classes.ensures in
    let near = are_classes R 0 G in
    subst (λ n. AreClasses R n G Ps) (sym (add-one b))
    (c.classes_are_told_backwards.ensures R b G Ns c.args.later.now Ps near later
    (joined_are G f c.in_ok-forest.ensures.long Ps those R b Ns c.args.later.now near later
    c.in_ok-forest.ensures.near c.in_ok-forest.ensures.later c.in_ok-forest.ensures.tied))

pub returns-clause-parents : goal.returns-clause-parents
returns-clause-parents c R b later =
    let G = c.args.list.now in
    let Ns = classes R G 1 in
    let f = c.in_ok-forest.forest.items in
    let Ps = c.in_ok-classes.classes.items in
    let those = subst (λ f. AreThoseWithCells (joined_sets G f) Ps) c.as_slice.ensures.value c.in_ok-classes.ensures in
    let near = are_classes R 0 G in
    parents_are G f c.in_ok-forest.ensures.long Ps those R b Ns c.args.later.now near later
    c.in_ok-forest.ensures.near c.in_ok-forest.ensures.later c.in_ok-forest.ensures.tied
    c.in_ok-parents.parents.items c.in_ok-parents.ensures.count
    (subst (λ Os. (j : ℕ) → j < length c.args.later.now →
    IsBeside G Os (get_or c.args.later.now j empty) (get_or c.in_ok-parents.parents.items j 0)) c.as_slice-3.ensures.value
    c.in_ok-parents.ensures.each)
