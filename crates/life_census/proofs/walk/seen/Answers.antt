use Rattle.std.proofs.Common.{◌≡◌, ℕ, List, sym, subst, ◌∙◌, arith}
use Rattle.std.specs.Bool.{OnTrue}
use Rattle.std.proofs.lemmas.Result.{IfOk-weaker}
use Rattle.std.specs.List.{All}
use Rattle.life_model.specs.Evolution.{generation}
use Rattle.life_model.specs.Generation.{Generation}
use Rattle.life_model.specs.Rule.{Rule}
use Rattle.life_objects.specs.Ash.{IsAsh}
use Rattle.life_ash.specs.Fates.{IsFate}
use Rattle.life_ash.specs.Met.{Terms}
use Rattle.life_ash.proofs.Finding.{of_none}
use Rattle.life_apart.specs.Onsets.Moments.{IsMomentOf}
use Rattle.life_census.specs.OnTheWay.{IsOnTheWay, IsSeen}
use Rattle.life_census.proofs.Walking.{way_begins, way_ends}
use Rattle.life_census.proofs.walk.seen.Goals as goal

abbrev IsNoAsh : Rule → ℕ → Generation → Type 0
IsNoAsh R b G = (parts : List Generation) → IsAsh R b G parts → ⊥

pub looks-init : goal.looks-init
looks-init g c =
    let aged = c.in_ok-plane.ensures.age in
    let some = c.requires.bound.0 in
    record {
      way = way_begins c.args.rule.now c.args.cells.now c.args.limit (g.P.Plane.members c.in_ok-plane.plane)
          (g.P.Plane.steps_made c.in_ok-plane.plane) c.new-trail.result c.in_ok-plane.ensures.cells aged c.new-trail.ensures;
      rule = c.new-met.ensures.rule;
      bound = c.new-met.ensures.bound;
      within = omega arith;
      before = omega arith;
      some = omega arith;
    }

pub fate_before-requires-clause-way : goal.fate_before-requires-clause-way
fate_before-requires-clause-way g c = (
  c.args.cells.now,
  subst (λ R. IsOnTheWay R c.args.cells.now c.args.limit (g.P.Plane.members c.looks.plane) (g.P.Plane.steps_made c.looks.plane)
      c.looks.trail) (sym c.looks.invariant.rule) c.looks.invariant.way,
)

pub fate_before-requires-2-clause-way : goal.fate_before-requires-2-clause-way
fate_before-requires-2-clause-way g c = (
  c.args.cells.now,
  subst (λ R. IsOnTheWay R c.args.cells.now c.args.limit (g.P.Plane.members c.looks.plane) (g.P.Plane.steps_made c.looks.plane)
      c.looks.trail) (sym c.looks.invariant.rule) c.looks.invariant.way,
)

pub fate_past-requires-clause-later : goal.fate_past-requires-clause-later
fate_past-requires-clause-later g c =
    let G = c.args.cells.now in
    let t = c.looks.met in
    let before =
    subst (λ R. IsOnTheWay R G c.args.limit (g.P.Plane.members c.looks.plane) (g.P.Plane.steps_made c.looks.plane) c.looks.trail)
    (sym c.looks.invariant.rule) c.looks.invariant.way in
    let both =
    way_ends t c.fate_before-2.new.met c.args.bound G c.args.limit (g.P.Plane.members c.fate_before-2.new.plane)
    (g.P.Plane.steps_made c.fate_before-2.new.plane) c.fate_before-2.new.trail c.fate_before-2.ensures.same
    c.looks.invariant.bound (of_none c.in_default-3.is c.in_ok-fate-2.ensures.age)
    (of_none c.in_default-3.is c.in_ok-fate-2.ensures.none G before) in
    (G, both.0, both.1)

pub seen_at_bound-requires-clause-way : goal.seen_at_bound-requires-clause-way
seen_at_bound-requires-clause-way g c =
    let G = c.args.cells.now in
    let before =
    subst (λ R. IsOnTheWay R G c.args.limit (g.P.Plane.members c.looks.plane) (g.P.Plane.steps_made c.looks.plane) c.looks.trail)
    (sym c.looks.invariant.rule) c.looks.invariant.way in
    let way = of_none c.in_default-3.is c.in_ok-fate-2.ensures.none G before in (
      G,
      subst
          (λ (R : Rule). g.P.Plane.members c.fate_before-2.new.plane ≡ generation R G (g.P.Plane.steps_made c.fate_before-2.new.plane))
          c.looks.invariant.rule way.cells,
    )

pub fate_past-requires-clause-no_ash : goal.fate_past-requires-clause-no_ash
fate_past-requires-clause-no_ash g c =
    let t = c.looks.met in
    let refused = c.in_ok-refused.refused in
    let H = g.P.Plane.members c.fate_before-2.new.plane in
    let aged = of_none c.in_default-3.is c.in_ok-fate-2.ensures.age ∙ sym c.looks.invariant.bound in
    subst (λ (u : Terms). OnTrue refused (IsNoAsh u.rule u.bound H)) (sym c.fate_before-2.ensures.same)
    (subst (λ (R : Rule). OnTrue refused (IsNoAsh R t.bound H)) (sym c.looks.invariant.rule)
    (subst (λ (b : ℕ). OnTrue refused (IsNoAsh c.args.rule.now b H)) aged c.in_ok-refused.ensures.ash))

pub returns : goal.returns
returns g c =
    let G = c.args.cells.now in
    let limit = c.args.limit in
    let t = c.looks.met in
    let met = c.fate_before-2.new.met in
    let same = c.fate_before-2.ensures.same in
    let before =
    subst (λ R. IsOnTheWay R G limit (g.P.Plane.members c.looks.plane) (g.P.Plane.steps_made c.looks.plane) c.looks.trail)
    (sym c.looks.invariant.rule) c.looks.invariant.way in
    let way = of_none c.in_default-3.is c.in_ok-fate-2.ensures.none G before in
    let both =
    way_ends t met c.args.bound G limit (g.P.Plane.members c.fate_before-2.new.plane)
    (g.P.Plane.steps_made c.fate_before-2.new.plane) c.fate_before-2.new.trail same c.looks.invariant.bound
    (of_none c.in_default-3.is c.in_ok-fate-2.ensures.age) way in
    let kept = subst (λ (u : Terms). All (IsMomentOf u.rule G) c.fate_before-2.new.trail) (sym same) way.trail in
    let fate = c.in_ok-fate-3.ensures G both.0 both.1 kept in
    let then = subst (λ (u : Terms). IsFate u.rule G u.bound limit c.in_ok-fate-3.fate) same fate in
    let bounded = subst (λ (b : ℕ). IsFate t.rule G b limit c.in_ok-fate-3.fate) c.looks.invariant.bound then in
    let ruled = subst (λ (R : Rule). IsFate R G c.args.bound limit c.in_ok-fate-3.fate) c.looks.invariant.rule bounded in
    let cells =
    subst
    (λ (R : Rule). g.P.Plane.members c.fate_before-2.new.plane ≡ generation R G (g.P.Plane.steps_made c.fate_before-2.new.plane))
    c.looks.invariant.rule way.cells in
    let aged = of_none c.in_default-3.is c.in_ok-fate-2.ensures.age in
    IfOk-weaker c.seen_at_bound.result _ _
    (λ seen told. subst (λ (b : ℕ). IsSeen c.args.rule.now G b limit c.args.horizon seen) aged
    (told G limit cells (subst (λ (b : ℕ). IsFate c.args.rule.now G b limit c.in_ok-fate-3.fate) (sym aged) ruled)))
    c.seen_at_bound.ensures
