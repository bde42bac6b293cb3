use Rattle.std.proofs.Common.{◌≡◌, ◌≤◌, ◌+◌, ◌-◌, ◌++◌, [], None, refl, sym, ap, ◌∙◌, arith}
use Rattle.std.specs.Prelude.{unwrap_or}
use Rattle.std.specs.List.{fold}
use Rattle.life_model.specs.Evolution.{next, generation}
use Rattle.life_model.proofs.Recurrences.{generation-zero, generation-next}
use Rattle.life_cells.specs.TextOrder.{least_text}
use Rattle.life_answer.specs.Apgcode.{bodies, turned_bodies}
use Rattle.life_codes.specs.Least.{with_text}
use Rattle.life_codes.proofs.Leasts.{turned_bodies-normal}
use Rattle.life_codes.proofs.Phases.{least-more, least_is}
use Rattle.life_find.proofs.Halves.{half_is_enough}
use Rattle.life_find.proofs.apgcode.add_phases.Goals.{then-period-gt2+in_ok-extend_from_slice, else-period-gt2}
use Rattle.life_find.proofs.apgcode.add_phases.Goals as goal

pub loop-n-init : goal.loop-n-init
loop-n-init g c =
    let R = c.args.rule.now in
    let H = g.P.Plane.members c.args.plane.now in
    let L = c.args.listed.now in
    let same : turned_bodies L ≡ turned_bodies H = sym (turned_bodies-normal L) ∙ ap turned_bodies c.requires.same ∙ turned_bodies-normal H in
    let alone : c.add.new.self ≡ fold with_text None (turned_bodies H) =
    c.in_ok-add.ensures.ok ∙ ap (λ o. fold with_text o (turned_bodies L)) c.requires.none ∙ ap (fold with_text None) same in
    record {
      cells = sym (generation-zero R H);
      age = refl;
      least = alone ∙ least-more R H H 0 (sym (generation-zero R H));
      first = λ long.
          elim c.if-period-gt2.branch [
            | then-period-gt2+in_ok-extend_from_slice w ↦
                ap (λ v. v.items) w.first-is ∙ w.in_ok-extend_from_slice.ensures.items ∙ ap (λ xs. xs ++ w.text.result.now) c.new-first.ensures.items
                ∙ w.text.ensures ∙ ap (λ o. unwrap_or o []) alone ∙ least_is (turned_bodies H)
            | else-period-gt2 w ↦ let short = w.if-period-gt2.false in absurd (omega arith)
          ];
    }

pub returns-then-branch : goal.returns-then-branch
returns-then-branch g c =
    let R = c.args.rule.now in
    let H = g.P.Plane.members c.args.plane.now in
    let n = c.loop-n.n in
    let later = c.if-n-gt1.true in
    let half = c.if-n-period.true in
    let there : g.P.Plane.members c.step.new.self ≡ generation R H n =
    c.in_ok-step.ensures.cells ∙ ap (next R) c.loop-n.invariant.cells ∙ sym (generation-next R H (n - 1))
    ∙ ap (generation R H) (let e : n - 1 + 1 ≡ n = omega arith in e) in
    let same : least_text (turned_bodies (generation R H n)) ≡ least_text (turned_bodies H) =
    ap (λ G. least_text (turned_bodies G)) (sym there) ∙ ap (λ G. least_text (turned_bodies G)) (sym c.in_ok-phase-2.ensures.cells) ∙ c.in_ok-has_text.ensures c.if-branch.true ∙ c.deref.ensures.value ∙ c.loop-n.invariant.first (omega arith) in
    ap (λ o. unwrap_or o []) c.loop-n.invariant.least
    ∙ least_is (bodies R H n)
    ∙ half_is_enough R H n same (omega arith)
    ∙ ap (λ k. least_text (bodies R H k)) (let e : n + n ≡ c.args.period = omega arith in e)

pub loop-n-preserved : goal.loop-n-preserved
loop-n-preserved g c =
    let R = c.args.rule.now in
    let H = g.P.Plane.members c.args.plane.now in
    let n = c.loop-n.n in
    let at = c.loop-n.invariant in
    let first : 1 ≤ n = omega arith in
    let there : g.P.Plane.members c.step.new.self ≡ generation R H n =
    c.in_ok-step.ensures.cells ∙ ap (next R) at.cells ∙ sym (generation-next R H (n - 1)) ∙ ap (generation R H) (let e : n - 1 + 1 ≡ n = omega arith in e) in
    let aged : g.P.Plane.steps_made c.step.new.self ≡ g.P.Plane.steps_made c.loop-n.plane + 1 = c.in_ok-step.ensures.age in
    let before : g.P.Plane.steps_made c.loop-n.plane + 1 ≡ g.P.Plane.steps_made c.args.plane.now + n = at.age in
    record {
      cells = there ∙ ap (generation R H) (let e : n ≡ n + 1 - 1 = omega arith in e);
      age = omega arith;
      least = c.in_ok-add-2.ensures.ok
          ∙ ap (λ G. fold with_text c.loop-n.least (turned_bodies G)) c.in_ok-phase-2.ensures.cells
          ∙ ap (λ o. fold with_text o (turned_bodies (g.P.Plane.members c.step.new.self))) at.least
          ∙ least-more R H (g.P.Plane.members c.step.new.self) n there;
      first = at.first;
    }

pub returns : goal.returns
returns g c =
    let R = c.args.rule.now in
    let H = g.P.Plane.members c.args.plane.now in
    let inside : c.loop-n.n ≤ c.args.period = c.loop-n.auto.n-end c.requires.period in
    let past = c.loop-n-test.false in
    ap (λ o. unwrap_or o []) (c.loop-n.invariant.least ∙ ap (λ n. fold with_text None (bodies R H n)) (let e : c.loop-n.n ≡ c.args.period = omega arith in e))
    ∙ least_is (bodies R H c.args.period)
