use Rattle.std.proofs.Common.{ap, subst, ◌∙◌, arith}
use Rattle.std.specs.List.{All}
use Rattle.std.proofs.lemmas.List.Elements.{All-map}
use Rattle.life_model.specs.Generation.{cells}
use Rattle.life_objects.specs.Union.{generations}
use Rattle.life_objects.specs.Whole.{StaysWhole}
use Rattle.life_classes.specs.Tracking.{first_sets}
use Rattle.life_classes.proofs.Later.{end_apart, lasts_then, tracked_at_first}
use Rattle.life_classes.proofs.splitting.classes_of.Goals as goal

pub returns-then-bound-eq0-clause-together : goal.returns-then-bound-eq0-clause-together
returns-then-bound-eq0-clause-together g c =
    (tracked_at_first c.args.rule.now c.args.bound (g.P.Plane.members c.args.plane.now) c.as_slice.result.now
    c.in_ok-all.all.items (c.as_slice.ensures.cells ∙ ap cells c.in_ok-cells.ensures.cells) c.in_ok-all.ensures.tracked).together

pub returns-then-bound-eq0-clause-whole : goal.returns-then-bound-eq0-clause-whole
returns-then-bound-eq0-clause-whole g c =
    All-map (StaysWhole c.args.rule.now c.args.bound (g.P.Plane.members c.args.plane.now)) (λ d. d.first)
    c.in_ok-all.all.items
    (tracked_at_first c.args.rule.now c.args.bound (g.P.Plane.members c.args.plane.now) c.as_slice.result.now
    c.in_ok-all.all.items (c.as_slice.ensures.cells ∙ ap cells c.in_ok-cells.ensures.cells) c.in_ok-all.ensures.tracked).whole

pub returns-then-bound-eq0-clause-apart : goal.returns-then-bound-eq0-clause-apart
returns-then-bound-eq0-clause-apart g c =
    let none = c.if-bound-eq0.true in
    end_apart c.args.rule.now c.args.bound 0 (g.P.Plane.members c.args.plane.now) c.in_ok-all.all.items
    (tracked_at_first c.args.rule.now c.args.bound (g.P.Plane.members c.args.plane.now) c.as_slice.result.now
    c.in_ok-all.all.items (c.as_slice.ensures.cells ∙ ap cells c.in_ok-cells.ensures.cells) c.in_ok-all.ensures.tracked)
    c.in_ok-all.ensures.apart (omega arith)

pub returns-then-bound-eq0-clause-later : goal.returns-then-bound-eq0-clause-later
returns-then-bound-eq0-clause-later g c =
    let none = c.if-bound-eq0.true in
    lasts_then c.args.rule.now 0 c.in_ok-all.all.items
    (tracked_at_first c.args.rule.now c.args.bound (g.P.Plane.members c.args.plane.now) c.as_slice.result.now
    c.in_ok-all.all.items (c.as_slice.ensures.cells ∙ ap cells c.in_ok-cells.ensures.cells) c.in_ok-all.ensures.tracked).later
    ∙ ap (generations c.args.rule.now (first_sets c.in_ok-all.all.items)) (omega arith)

pub returns-clause-whole : goal.returns-clause-whole
returns-clause-whole g c =
    subst (λ G. All (StaysWhole c.args.rule.now c.args.bound G) (first_sets c.in_ok-all-2.all.items))
    c.in_ok-copy.ensures.cells c.in_ok-all-2.ensures.whole
