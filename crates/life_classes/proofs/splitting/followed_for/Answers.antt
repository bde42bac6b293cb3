use Rattle.std.proofs.Common.{◌≡◌, ◌+◌, ◌-◌, map, sym, ap, subst, ◌∙◌, add-zero, add_assoc, arith}
use Rattle.life_classes.specs.Splits.{classes_of_split}
use Rattle.life_classes.specs.Tracking.{AreApartNow, AreTracked, after}
use Rattle.life_classes.proofs.Lived.{apart_later, few_tracked}
use Rattle.life_classes.proofs.splitting.followed_for.Goals as goal

pub loop-made-init : goal.loop-made-init
loop-made-init g c = record {
  within = omega arith;
  aged = sym (add-zero _);
  cells = c.requires.cells;
  labelled = c.requires.labelled;
  tracked = c.requires.tracked;
  apart = c.requires.apart;
}

pub loop-made-preserved : goal.loop-made-preserved
loop-made-preserved g c =
    let at = c.loop-made.invariant in
    let most = c.in_ok-walk.ensures.made in
    let within = at.within in
    record {
      within = omega arith;
      aged = c.in_ok-walk.ensures.aged ∙ ap (λ k. k + c.in_ok-walk.walk.made) at.aged ∙ add_assoc _ _ _;
      cells = c.in_ok-walk.ensures.cells;
      labelled = c.in_ok-walk.ensures.labelled;
      tracked =
          c.in_ok-walk.ensures.led c.args.bound c.loop-made.made (g.P.Plane.members c.args.plane) (omega arith) at.tracked;
      apart = c.in_ok-walk.ensures.apart;
    }

-- ---- at most one class lives from some generation on

pub returns-then-are_few-clause-tracked : goal.returns-then-are_few-clause-tracked
returns-then-are_few-clause-tracked g c =
    let R = c.args.rule.now in
    let G = g.P.Plane.members c.args.plane in
    let n = c.loop-made.made in
    let inside = c.loop-made-test.true in
    let left = c.args.bound - n in
    let all_steps : n + left ≡ c.args.bound = omega arith in
    let old = classes_of_split c.loop-made.split in
    let few = c.are_few.ensures.0 c.if-are_few.true in
    subst (AreTracked R c.args.bound c.args.bound G) (sym c.in_ok-end.ensures.later)
    (subst (λ k. AreTracked R c.args.bound k G (map (after R left) old)) all_steps
    (few_tracked R c.args.bound n G old c.loop-made.invariant.tracked few left))

pub returns-then-are_few-clause-apart : goal.returns-then-are_few-clause-apart
returns-then-are_few-clause-apart g c =
    let R = c.args.rule.now in
    let few = c.are_few.ensures.0 c.if-are_few.true in
    subst AreApartNow (sym c.in_ok-end.ensures.later)
    (apart_later R (c.args.bound - c.loop-made.made) (classes_of_split c.loop-made.split) few)

pub returns-clause-tracked : goal.returns-clause-tracked
returns-clause-tracked g c =
    let past = c.loop-made-test.false in
    let within = c.loop-made.invariant.within in
    let at_end : c.loop-made.made ≡ c.args.bound = omega arith in
    subst (λ k. AreTracked c.args.rule.now c.args.bound k (g.P.Plane.members c.args.plane) (classes_of_split c.loop-made.split))
    at_end c.loop-made.invariant.tracked
