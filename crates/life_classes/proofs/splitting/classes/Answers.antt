use Rattle.std.proofs.Common.{refl, ap, arith}
use Rattle.std.proofs.lemmas.List.Elements.{All-map}
use Rattle.life_model.specs.Generation.{cells}
use Rattle.life_objects.specs.Whole.{StaysWhole}
use Rattle.life_classes.specs.Splits.{classes_of_split}
use Rattle.life_classes.proofs.Later.{end_apart, lasts_then, tracked_at_first}
use Rattle.life_classes.proofs.Merging.{led}
use Rattle.life_classes.proofs.splitting.classes.Goals as goal

pub followed_for-requires-clause-tracked : goal.followed_for-requires-clause-tracked
followed_for-requires-clause-tracked g c =
    tracked_at_first c.args.rule.now c.args.bound (g.P.Plane.members c.args.plane) (cells c.in_ok-first.first)
    (classes_of_split c.in_ok-split.split) (ap cells c.in_ok-first.ensures.cells) c.in_ok-split.ensures.tracked

pub returns-clause-together : goal.returns-clause-together
returns-clause-together g c =
    (led (classes_of_split c.in_ok-end.end) c.in_ok-all.all.items c.in_ok-all.ensures.tracked c.args.rule.now c.args.bound
    c.args.bound (g.P.Plane.members c.args.plane) (omega arith) c.in_ok-end.ensures.tracked).together

pub returns-clause-whole : goal.returns-clause-whole
returns-clause-whole g c =
    All-map (StaysWhole c.args.rule.now c.args.bound (g.P.Plane.members c.args.plane)) (λ d. d.first)
    c.in_ok-all.all.items
    (led (classes_of_split c.in_ok-end.end) c.in_ok-all.all.items c.in_ok-all.ensures.tracked c.args.rule.now c.args.bound
    c.args.bound (g.P.Plane.members c.args.plane) (omega arith) c.in_ok-end.ensures.tracked).whole

pub returns-clause-apart : goal.returns-clause-apart
returns-clause-apart g c =
    end_apart c.args.rule.now c.args.bound c.args.bound (g.P.Plane.members c.args.plane) c.in_ok-all.all.items
    (led (classes_of_split c.in_ok-end.end) c.in_ok-all.all.items c.in_ok-all.ensures.tracked c.args.rule.now c.args.bound
    c.args.bound (g.P.Plane.members c.args.plane) (omega arith) c.in_ok-end.ensures.tracked)
    (c.in_ok-all.ensures.apart c.in_ok-end.ensures.apart) refl

pub returns-clause-later : goal.returns-clause-later
returns-clause-later g c =
    lasts_then c.args.rule.now c.args.bound c.in_ok-all.all.items
    (led (classes_of_split c.in_ok-end.end) c.in_ok-all.all.items c.in_ok-all.ensures.tracked c.args.rule.now c.args.bound
    c.args.bound (g.P.Plane.members c.args.plane) (omega arith) c.in_ok-end.ensures.tracked).later
