use Rattle.std.proofs.Common.{◌≡◌, ◌+◌, ◌++◌, ◌∷◌, [], length, sym, ap, ◌∙◌, add-zero, add_assoc, arith}
use Rattle.std.specs.List.{All}
use Rattle.std.proofs.lemmas.List.{length_push}
use Rattle.std.proofs.lemmas.List.Elements.{All-nil, All-push, All-same}
use Rattle.life_model.specs.Evolution.{generation, next}
use Rattle.life_model.proofs.Recurrences.{generation-next, generation-zero}
use Rattle.life_ash.proofs.Finding.{of_some}
use Rattle.life_ash.proofs.Places.{placed_at}
use Rattle.life_objects.specs.Ash.{IsAsh}
use Rattle.life_apart.specs.Sets.{IsCourseBy, sets_of}
use Rattle.life_growing.specs.Settled.Settling.{IsInField}
use Rattle.life_growing.proofs.SettlingLemmas.Walking.{more_generations, no_generations, short_parts}
use Rattle.life_growing.proofs.settling.walk.settled.Goals as goal

pub loop-n-init : goal.loop-n-init
loop-n-init g c =
    let R = c.args.rule.now in
    let P = c.args.cells.now in
    record {
      members = c.in_ok-plane.ensures.cells ∙ sym (generation-zero R P);
      aged = c.in_ok-plane.ensures.age ∙ sym (add-zero _);
      count = ap length c.new-early.ensures.items;
      made = no_generations R P c.new-early.result.items (ap length c.new-early.ensures.items);
      placed = c.in_ok-plane.ensures.within;
      within = All-same IsInField c.new-early.result.items [] c.new-early.ensures.items (All-nil IsInField);
    }

pub loop-n-preserved : goal.loop-n-preserved
loop-n-preserved g c =
    let R = c.args.rule.now in
    let P = c.args.cells.now in
    let n = c.loop-n.n in
    let at = c.loop-n.invariant in
    let H = c.in_ok-cells.field-0 in
    let items = c.push.new.self.items in
    let is : items ≡ c.loop-n.early.items ++ H ∷ [] = c.in_ok-push.ensures.items in
    let here : H ≡ generation R P n = c.in_ok-cells.ensures.cells ∙ at.members in
    record {
      members = c.in_ok-step.ensures.cells ∙ ap (next R) at.members ∙ sym (generation-next R P n);
      aged = c.in_ok-step.ensures.age ∙ ap (λ k. k + 1) at.aged ∙ add_assoc _ _ _;
      count = ap length is ∙ length_push c.loop-n.early.items H ∙ ap (λ k. k + 1) at.count;
      made = more_generations R P c.loop-n.early.items items H n is at.count here at.made;
      placed = c.in_ok-step.ensures.within;
      within = All-same IsInField items _ is (All-push IsInField c.loop-n.early.items H at.within
          (placed_at (g.P.Plane.steps_made c.loop-n.plane) (g.P.Plane.members c.loop-n.plane) H
          (sym c.in_ok-cells.ensures.cells)
          (let aged = at.aged in let inside = c.loop-n-test.true in let young = c.requires.age in omega arith) at.placed));
    }

pub of-requires : goal.of-requires
of-requires g c =
    let R = c.args.rule.now in
    let P = c.args.cells.now in
    let b = c.args.bound in
    let H = g.P.Plane.members c.loop-n.plane in
    let at = c.loop-n.invariant in
    let ash = of_some (λ os. IsAsh R b H (sets_of os)) c.in-Some.is c.in_ok-ash.ensures.some in
    let by = of_some (λ os. All (IsCourseBy R) os) c.in-Some.is c.in_ok-ash.ensures.rule in
    record {
      few = let count = at.count in let inside = c.loop-n-test.true in let short = c.requires.bound in omega arith;
      within = at.within;
      parts = short_parts R P b H c.loop-n.early.items c.loop-n.n c.in-Some.ash at.count at.members ash by
          (let short = c.requires.bound in omega arith);
    }

pub of-requires-in-Some-2 : goal.of-requires-in-Some-2
of-requires-in-Some-2 g c =
    let R = c.args.rule.now in
    let P = c.args.cells.now in
    let b = c.args.bound in
    let H = g.P.Plane.members c.loop-n.plane in
    let at = c.loop-n.invariant in
    let ash = of_some (λ os. IsAsh R b H (sets_of os)) c.in-Some-2.is c.in_ok-ash-2.ensures.some in
    let by = of_some (λ os. All (IsCourseBy R) os) c.in-Some-2.is c.in_ok-ash-2.ensures.rule in
    record {
      few = let count = at.count in let inside = c.loop-n.auto.n-end in let short = c.requires.bound in omega arith;
      within = at.within;
      parts = short_parts R P b H c.loop-n.early.items c.loop-n.n c.in-Some-2.ash at.count at.members ash by
          (let short = c.requires.bound in omega arith);
    }
