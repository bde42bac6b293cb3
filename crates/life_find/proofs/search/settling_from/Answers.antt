use Rattle.std.proofs.Common.{◌≡◌, ◌+◌, ◌≤◌, sym, ap, ◌∙◌, zero-add, below_more, arith}
use Rattle.life_model.specs.Evolution.{next, generation}
use Rattle.life_model.specs.Symmetry.{translate_of, normal}
use Rattle.life_model.proofs.Recurrences.{generation-add, generation-next, settles_by_period, Settles_from_first}
use Rattle.life_find.proofs.search.settling_from.Goals as goal

pub loop-onset-init : goal.loop-onset-init
loop-onset-init g c =
    let R = c.args.rule.now in
    let G = c.args.cells.now in
    let p = c.args.period in
    let first = c.args.first in
    let here : g.P.Plane.members c.advance.new.plane ≡ generation R G first =
    c.in_ok-advance.ensures.cells ∙ ap (λ H. generation R H first) c.in_ok-runner.ensures.cells in
    let aged : g.P.Plane.steps_made c.advance.new.plane ≡ first =
    c.in_ok-advance.ensures.age ∙ ap (λ n. n + first) c.in_ok-runner.ensures.age ∙ zero-add first in
    record {
      here = here;
      there = c.in_ok-advance-2.ensures.cells ∙ ap (λ H. generation R H p) (c.in_ok-later.ensures.cells ∙ here) ∙ generation-add R G first p;
      aged = aged;
      later_aged = c.in_ok-advance-2.ensures.age ∙ ap (λ n. n + p) (c.in_ok-later.ensures.age ∙ aged);
      none = c.requires.earlier;
    }

pub returns-in-Some-clause-found : goal.returns-in-Some-clause-found
returns-in-Some-clause-found g c =
    let found = c.requires.period in
    let offset = rw c.in-Some.is at c.in_ok-displacement.ensures.offset in
    let o = c.loop-onset.onset in
    let p = c.args.period in
    let d = c.in-Some.displacement in
    let at = c.loop-onset.invariant in
    let inside = c.loop-onset-test.true in
    let range = c.requires.range in
    Settles_from_first c.args.rule.now c.args.cells.now found.0 p found.1 c.args.bound o d (omega arith)
    (sym at.there ∙ offset.move ∙ ap (λ H. translate_of H d) at.here)
    (λ none. offset.unmoved (at.here ∙ none)) at.none

pub returns-in-Some-clause-shape : goal.returns-in-Some-clause-shape
returns-in-Some-clause-shape g c = ap normal c.loop-onset.invariant.here

pub loop-onset-preserved : goal.loop-onset-preserved
loop-onset-preserved g c =
    let R = c.args.rule.now in
    let G = c.args.cells.now in
    let o = c.loop-onset.onset in
    let p = c.args.period in
    let at = c.loop-onset.invariant in
    let missed = rw c.in_default.is at c.in_ok-displacement.ensures.apart in
    let later : (o + p) + 1 ≡ (o + 1) + p = omega arith in
    record {
      here = c.in_ok-step.ensures.cells ∙ ap (next R) at.here ∙ sym (generation-next R G o);
      there = c.in_ok-step-2.ensures.cells ∙ ap (next R) at.there ∙ sym (generation-next R G (o + p)) ∙ ap (generation R G) later;
      aged = c.in_ok-step.ensures.age ∙ ap (λ n. n + 1) at.aged;
      later_aged = c.in_ok-step-2.ensures.age ∙ ap (λ n. n + 1) at.later_aged ∙ later;
      none = below_more _ _ at.none (λ e. missed (ap normal at.here ∙ sym e ∙ ap normal (sym at.there)));
    }

pub returns-clause-none : goal.returns-clause-none
returns-clause-none g c h s =
    let found = c.requires.period in
    let near = settles_by_period _ _ found.0 c.args.period found.1 c.args.bound h s in
    let within : h + c.args.period ≤ c.args.bound = near.0 in
    let past = c.loop-onset-test.false in
    c.loop-onset.invariant.none h (omega arith) near.1
