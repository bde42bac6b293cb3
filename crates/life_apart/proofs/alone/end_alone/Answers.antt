use Rattle.std.proofs.Common.{◌≡◌, ◌+◌, sym, ap, subst, ◌∙◌, add-zero, add_assoc, arith}
use Rattle.life_model.specs.Evolution.{generation, next}
use Rattle.life_model.specs.Generation.{cells, contains}
use Rattle.life_model.proofs.Generations.{contains-cells}
use Rattle.life_model.proofs.Recurrences.{generation-zero, generation-next}
use Rattle.life_cells.specs.Limits.{IsWithin}
use Rattle.life_model.proofs.Members.{of_member, of_all_members}
use Rattle.life_apart.proofs.Loners.{end_then}
use Rattle.life_apart.proofs.alone.end_alone.Goals as goal

pub at_age-requires-clause-within : goal.at_age-requires-clause-within
at_age-requires-clause-within g c =
    let G = g.P.Plane.members c.in_ok-all.all in
    of_all_members (IsWithin c.age.result) (cells c.args.set.now)
    (λ x h. subst (λ n. IsWithin n x) (sym c.age.ensures.age)
    (of_member (IsWithin (g.P.Plane.steps_made c.in_ok-all.all)) (cells G) c.age.ensures.within x
    (sym (contains-cells G x)
    ∙ ap (λ H. contains H x) c.in_ok-all.ensures.cells
    ∙ c.requires.within x (contains-cells c.args.set.now x ∙ h))))

pub loop-n-init : goal.loop-n-init
loop-n-init g c =
    let R = c.args.rule.now in
    record {
      all = c.in_ok-all.ensures.cells ∙ sym (generation-zero R (g.P.Plane.members c.args.plane.now));
      alone = c.in_ok-alone.ensures.cells ∙ sym (generation-zero R c.args.set.now);
      all_aged = c.in_ok-all.ensures.age ∙ sym (add-zero _);
      alone_aged = c.in_ok-alone.ensures.age ∙ c.age.ensures.age ∙ c.in_ok-all.ensures.age ∙ sym (add-zero _);
      known = omega arith;
      sure = λ m h. absurd (omega arith);
    }

pub loop-n-preserved : goal.loop-n-preserved
loop-n-preserved g c =
    let R = c.args.rule.now in
    let G = g.P.Plane.members c.args.plane.now in
    let n = c.loop-n.n in
    let at = c.loop-n.invariant in
    let more = c.if-sure-n.false in
    record {
      all = c.in_ok-step.ensures.cells ∙ ap (next R) at.all ∙ sym (generation-next R G n);
      alone = c.in_ok-step-2.ensures.cells ∙ ap (next R) at.alone ∙ sym (generation-next R c.args.set.now n);
      all_aged = c.in_ok-step.ensures.age ∙ ap (λ k. k + 1) at.all_aged ∙ add_assoc _ _ _;
      alone_aged = c.in_ok-step-2.ensures.age ∙ ap (λ k. k + 1) at.alone_aged ∙ add_assoc _ _ _;
      known = omega arith;
      sure = c.in_ok-sure.ensures R G c.args.set.now c.requires.within at.all at.alone at.known at.sure;
    }

pub returns : goal.returns
returns g c =
    let R = c.args.rule.now in
    let G = g.P.Plane.members c.args.plane.now in
    let past = c.loop-n-test.false in
    let at = c.loop-n.invariant in
    let known = at.known in
    let late = c.if-branch-bound.false in
    let ended : c.loop-n.n ≡ c.args.bound = omega arith in
    let all = subst (λ k. g.P.Plane.members c.loop-n.all ≡ generation R G k) ended at.all in
    let alone = subst (λ k. g.P.Plane.members c.loop-n.alone ≡ generation R c.args.set.now k) ended at.alone in
    end_then G c.args.set.now c.requires.within R c.args.bound c.in_ok-sure_until.field-0 c.in_ok-cells.field-0
    (omega arith)
    (c.in_ok-sure_until.ensures R G c.args.set.now c.requires.within all alone (omega arith) at.sure)
    (c.in_ok-cells.ensures.cells ∙ alone)
