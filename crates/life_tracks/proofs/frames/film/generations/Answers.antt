use Rattle.std.proofs.Common.{◌≡◌, ◌+◌, [], ◌∷◌, ◌++◌, sym, ap, ◌∙◌, add-zero, add_assoc, arith}
use Rattle.life_model.specs.Evolution.{generation, next}
use Rattle.life_model.proofs.Recurrences.{generation-next, generation-zero}
use Rattle.life_tracks.proofs.FramesLemmas.Backwards.{first_generation, one_generation_more}
use Rattle.life_tracks.proofs.frames.film.generations.Goals as goal

pub loop-init : goal.loop-init
loop-init g c =
    let R = c.args.rule.now in
    let G = g.P.Plane.members c.args.plane.now in
    record {
      members = c.in_ok-later.ensures.cells ∙ sym (generation-zero R G);
      aged = c.in_ok-later.ensures.age ∙ sym (add-zero _);
      made =
          first_generation R G c.push.new.self.items c.in_ok-cells.field-0
          (c.in_ok-push.ensures.items ∙ ap (λ xs. xs ++ (c.in_ok-cells.field-0 ∷ [])) c.new-all.ensures.items)
          (c.in_ok-cells.ensures.cells ∙ c.in_ok-later.ensures.cells);
    }

pub loop-preserved : goal.loop-preserved
loop-preserved g c =
    let R = c.args.rule.now in
    let G = g.P.Plane.members c.args.plane.now in
    let n = c.loop.counter in
    let at = c.loop.invariant in
    let members : g.P.Plane.members c.step.new.self ≡ generation R G (n + 1) =
    c.in_ok-step.ensures.cells ∙ ap (next R) at.members ∙ sym (generation-next R G n) in
    record {
      members = members;
      aged = c.in_ok-step.ensures.age ∙ ap (λ k. k + 1) at.aged ∙ add_assoc _ _ _;
      made =
          one_generation_more R G (n + 1) c.loop.all.items c.push-in-loop.new.self.items c.in_ok-cells-2.field-0
          c.in_ok-push-2.ensures.items (c.in_ok-cells-2.ensures.cells ∙ members) at.made;
    }

pub step-requires : goal.step-requires
step-requires g c =
    let aged = c.loop.invariant.aged in
    let inside = c.loop-test.true in
    let young = c.requires.young in
    omega arith
