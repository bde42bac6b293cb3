use Rattle.std.proofs.Common.{◌≡◌, ◌+◌, inl, inr, sym, ap, subst, ◌∙◌, add-zero, add_assoc, true≢false, arith}
use Rattle.std.specs.List.{All}
use Rattle.std.proofs.lemmas.Bool.{OnTrue_at, cases_lt}
use Rattle.life_model.specs.Evolution.{generation, next}
use Rattle.life_model.specs.Generation.{cells}
use Rattle.life_model.proofs.Moves.{nothing_or_some}
use Rattle.life_cells.specs.Limits.{IsWithin}
use Rattle.life_islands.proofs.Labelled.{place_in_list}
use Rattle.life_growing.specs.Populations.{FallsBack}
use Rattle.life_model.proofs.Recurrences.{generation-next, generation-zero}
use Rattle.life_growing.specs.Returning.{ComesBackBy}
use Rattle.life_growing.proofs.ComingBack.{engine_comes_back, never_falls_back}
use Rattle.life_growing.proofs.PickingClasses.{engine_has_cell}
use Rattle.life_growing.proofs.returning.never_come_back.Goals.{then-not-falls_back+in_ok-later+in_ok-may_come_back+else-branch, else-not-falls_back}
use Rattle.life_growing.proofs.returning.never_come_back.Goals as goal

pub returns-then-is_empty : goal.returns-then-is_empty
returns-then-is_empty g c engine =
    engine_has_cell c.args.rule.now c.args.bound c.args.cells.now engine (c.is_empty.ensures.0 c.if-is_empty.true)

pub longest_run-ends-requires-clause-some : goal.longest_run-ends-requires-clause-some
longest_run-ends-requires-clause-some g c =
    let E = c.args.cells.now in
    elim (nothing_or_some E) [
      | inl none ↦ absurd (true≢false (sym (c.is_empty.ensures.1 none) ∙ c.if-is_empty.false))
      | inr cell ↦
          let at = place_in_list E c.as_slice.result.now c.as_slice.ensures.cells cell.0 cell.1 in
          let inside = at.1 in
          omega arith
    ]

pub loop-n-init : goal.loop-n-init
loop-n-init g c = record {
  members = c.in_ok-plane.ensures.cells ∙ sym (generation-zero c.args.rule.now c.args.cells.now);
  aged = c.in_ok-plane.ensures.age ∙ sym (add-zero _);
  none = λ way none engine. let later = engine.later in absurd (omega arith);
}

pub may_come_back-requires-clause-within : goal.may_come_back-requires-clause-within
may_come_back-requires-clause-within g c =
    subst (λ a. All (IsWithin a) (cells c.in_ok-later.later))
    (c.in_ok-step.ensures.age ∙ ap (λ k. k + 1) c.loop-n.invariant.aged)
    (subst (λ H. All (IsWithin (g.P.Plane.steps_made c.step.new.self)) (cells H)) (sym c.in_ok-later.ensures.cells)
    c.in_ok-step.ensures.within)

pub loop-n-preserved : goal.loop-n-preserved
loop-n-preserved g c =
    let R = c.args.rule.now in
    let b = c.args.bound in
    let E = c.args.cells.now in
    let n = c.loop-n.n in
    let at = c.loop-n.invariant in
    let members : g.P.Plane.members c.step.new.self ≡ generation R E (n + 1) =
    c.in_ok-step.ensures.cells ∙ ap (next R) at.members ∙ sym (generation-next R E n) in
    record {
      members = members;
      aged = c.in_ok-step.ensures.age ∙ ap (λ k. k + 1) at.aged ∙ add_assoc _ _ _;
      none = λ way short engine.
          elim (cases_lt way.period (n + 1)) [
            | inl sooner ↦ at.none way (omega arith) engine
            | inr now ↦
                let e : way.period ≡ n + 1 = omega arith in
                elim c.if-not-falls_back.branch [
                  | then-not-falls_back+in_ok-later+in_ok-may_come_back+else-branch w ↦
                      w.in_ok-may_come_back.ensures.no w.if-branch.false way.displacement
                      (subst (λ H. ComesBackBy R b E H way.displacement)
                      (ap (generation R E) e ∙ sym members ∙ sym w.in_ok-later.ensures.cells)
                      (engine_comes_back R b E way engine))
                  | else-not-falls_back w ↦
                      never_falls_back R b E way engine c.args.counts.now c.requires.counts
                      (subst (FallsBack c.args.counts.now) (sym e)
                      (OnTrue_at w.if-not-falls_back.false c.falls_back.ensures))
                ]
          ];
    }

pub returns : goal.returns
returns g c engine =
    let past = c.loop-n-test.false in
    let within = engine.1.within in
    c.loop-n.invariant.none engine.0 (omega arith) engine.1
