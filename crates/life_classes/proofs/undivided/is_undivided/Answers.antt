use Rattle.std.proofs.Common.{◌≡◌, ◌+◌, ◌∙◌, map, refl, sym, ap, add-zero, add_assoc, arith}
use Rattle.life_model.specs.Generation.{cells}
use Rattle.life_model.specs.Evolution.{generation, next}
use Rattle.life_model.proofs.Recurrences.{generation-zero, generation-next}
use Rattle.life_classes.specs.Splits.{classes_of_split}
use Rattle.life_classes.specs.Tracking.{moved_on}
use Rattle.life_classes.proofs.Few.{few_decide, undivided_soon}
use Rattle.life_classes.proofs.Later.{moved_on_tracked, tracked_at_first}
use Rattle.life_classes.proofs.Merging.{led}
use Rattle.life_classes.proofs.Wholes.{reached_next}
use Rattle.life_classes.proofs.undivided.is_undivided.Goals as goal

pub loop-init : goal.loop-init
loop-init g c =
    let R = c.args.rule.now in
    let G = g.P.Plane.members c.args.plane in
    record {
      members = sym (generation-zero R G);
      aged = sym (add-zero _);
      cells = c.in_ok-split.ensures.cells ∙ c.in_ok-first.ensures.cells;
      labelled = c.in_ok-split.ensures.labelled;
      tracked = λ k h.
          tracked_at_first R k G (cells c.in_ok-first.first) (classes_of_split c.in_ok-split.split)
          (ap cells c.in_ok-first.ensures.cells) c.in_ok-split.ensures.tracked;
      apart = c.in_ok-split.ensures.apart;
    }

pub followed-requires-clause-reached : goal.followed-requires-clause-reached
followed-requires-clause-reached g c =
    let R = c.args.rule.now in
    reached_next R c.loop.split.last c.in_ok-cells.cells
    (c.in_ok-cells.ensures.cells ∙ c.in_ok-step.ensures.cells ∙ ap (next R) (sym c.loop.invariant.cells))

pub loop-preserved : goal.loop-preserved
loop-preserved g c =
    let R = c.args.rule.now in
    let G = g.P.Plane.members c.args.plane in
    let n = c.loop.counter in
    let at = c.loop.invariant in
    let H = c.in_ok-cells.cells in
    let old = classes_of_split c.loop.split in
    let members : g.P.Plane.members c.step.new.self ≡ generation R G (n + 1) =
    c.in_ok-step.ensures.cells ∙ ap (next R) at.members ∙ sym (generation-next R G n) in
    record {
      members = members;
      aged = c.in_ok-step.ensures.age ∙ ap (λ k. k + 1) at.aged ∙ add_assoc _ _ _;
      cells = c.in_ok-split-2.ensures.cells ∙ c.in_ok-cells.ensures.cells;
      labelled = c.in_ok-split-2.ensures.labelled;
      tracked = λ k h.
          led (map (moved_on H) old) (classes_of_split c.in_ok-split-2.split) c.in_ok-split-2.ensures.tracked R k (n + 1) G h
          (moved_on_tracked R k n G old (at.tracked k (omega arith)) at.apart H (c.in_ok-cells.ensures.cells ∙ members));
      apart = c.in_ok-split-2.ensures.apart;
    }

pub returns-then-are_few : goal.returns-then-are_few
returns-then-are_few g c =
    let few = c.are_few.ensures.0 c.if-are_few.true in (
      λ t. undivided_soon c.args.rule.now c.args.bound c.loop.counter (g.P.Plane.members c.args.plane)
          (classes_of_split c.loop.split) c.loop.invariant.tracked c.loop.invariant.apart (omega arith) few,
      λ undivided. refl,
    )

pub returns : goal.returns
returns g c =
    let decided = few_decide c.args.rule.now c.args.bound c.loop.counter (g.P.Plane.members c.args.plane)
    (classes_of_split c.loop.split) c.loop.invariant.tracked c.loop.invariant.apart (omega arith) in (
      λ t. decided.0 (c.are_few-2.ensures.0 t),
      λ undivided. c.are_few-2.ensures.1 (decided.1 undivided),
    )
