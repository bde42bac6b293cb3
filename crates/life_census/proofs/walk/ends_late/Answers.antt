use Rattle.std.proofs.Common.{◌≡◌, ◌≤◌, None, sym, subst, ap, ◌∙◌, arith}
use Rattle.std.proofs.Math.Nat.{le-min, min-le_left}
use Rattle.life_model.specs.Evolution.{generation}
use Rattle.life_model.specs.Generation.{Generation}
use Rattle.life_model.specs.Rule.{Rule}
use Rattle.life_objects.specs.Ash.{IsAsh}
use Rattle.life_apart.specs.Sets.{sets_of}
use Rattle.life_ash.specs.Fates.{IsFate}
use Rattle.life_ash.specs.Met.{Terms}
use Rattle.life_ash.specs.declared.pattern_fate.Fate.{Fate}
use Rattle.life_ash.proofs.Finding.{of_none, of_some}
use Rattle.life_census.specs.OnTheWay.{IsOnTheWay}
use Rattle.life_census.proofs.Walking.{way_goes_on}
use Rattle.life_census.proofs.walk.ends_late.Goals as goal

pub stretches-init : goal.stretches-init
stretches-init g c = record {
  way = λ G cells.
      way_goes_on c.args.rule.now G (g.P.Plane.members c.args.plane) (g.P.Plane.steps_made c.args.plane) c.new-trail.result
      cells c.new-trail.ensures;
  rule = c.new-met.ensures.rule;
  bound = c.new-met.ensures.bound;
  aged = sym c.age-age.ensures.age;
  within =
      let aged = c.age-age.ensures.age in
      let young = c.requires.age.1 in
      let early : c.age-age.result ≤ c.min.result =
      subst (λ n. c.age-age.result ≤ n) (sym c.min.ensures) (le-min (omega arith) (omega arith)) in
      subst (λ n. c.age-age.result ≤ n) (sym c.min-late.ensures) (le-min early (omega arith));
}

pub fate_before-requires-clause-way : goal.fate_before-requires-clause-way
fate_before-requires-clause-way g c =
    let G = c.requires.way.0 in (
      G,
      subst (λ R. IsOnTheWay R G None (g.P.Plane.members c.stretches.later) (g.P.Plane.steps_made c.stretches.later)
          c.stretches.trail) (sym c.stretches.invariant.rule) (c.stretches.invariant.way G c.requires.way.1),
    )

pub returns-in-Some-Ash : goal.returns-in-Some-Ash
returns-in-Some-Ash g c G cells =
    let R = c.stretches.met.rule in
    let b = c.stretches.met.bound in
    let begun : Rule → Type 0 =
    λ S. IsOnTheWay S G None (g.P.Plane.members c.stretches.later) (g.P.Plane.steps_made c.stretches.later) c.stretches.trail in
    let way = subst begun (sym c.stretches.invariant.rule) (c.stretches.invariant.way G cells) in
    let found = of_some (λ (fate : Fate). (H : Generation) →
    IsOnTheWay R H None (g.P.Plane.members c.stretches.later) (g.P.Plane.steps_made c.stretches.later) c.stretches.trail →
    IsFate R H b None fate) c.in-Some-Ash.is c.in_ok-fate_before.ensures.some G way in
    let told = subst (IsFate R G b None) c.in-Some-Ash.field-0-is found in (
      b,
      c.in-Some-Ash.field-0-1,
      sets_of c.in-Some-Ash.field-0-0,
      subst (λ S. IsAsh S b (generation S G c.in-Some-Ash.field-0-1) (sets_of c.in-Some-Ash.field-0-0))
          c.stretches.invariant.rule told.2,
    )

pub stretches-preserved : goal.stretches-preserved
stretches-preserved g c =
    let t = c.fate_before.new.met in
    let same : t ≡ c.stretches.met = c.fate_before.ensures.same in
    record {
      way = λ G cells.
          let before =
          subst (λ R. IsOnTheWay R G None (g.P.Plane.members c.stretches.later) (g.P.Plane.steps_made c.stretches.later)
          c.stretches.trail) (sym c.stretches.invariant.rule) (c.stretches.invariant.way G cells) in
          subst (λ R. IsOnTheWay R G None (g.P.Plane.members c.fate_before.new.plane)
          (g.P.Plane.steps_made c.fate_before.new.plane) c.fate_before.new.trail) c.stretches.invariant.rule
          (of_none c.in-None.is c.in_ok-fate_before.ensures.none G before);
      rule = ap (λ (m : Terms). m.rule) same ∙ c.stretches.invariant.rule;
      bound = ap (λ (m : Terms). m.bound) same ∙ c.stretches.invariant.bound;
      aged = of_none c.in-None.is c.in_ok-fate_before.ensures.age;
      within = subst (λ n. n ≤ c.min-late.result) (sym c.min-end.ensures) (min-le_left _ _);
    }
