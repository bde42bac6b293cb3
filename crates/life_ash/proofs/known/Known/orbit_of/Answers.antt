use Rattle.std.proofs.Common.{◌≡◌, ◌≤◌, sym, subst, arith}
use Rattle.std.proofs.lemmas.List.Elements.{All-same}
use Rattle.life_orbit.specs.Course.{Course, IsCourse}
use Rattle.life_ash.specs.Met.{IsMet, Terms}
use Rattle.life_ash.proofs.Finding.{of_some}
use Rattle.life_ash.proofs.known.Known.orbit_of.Goals as goal

pub returns-in-Some-clause-met : goal.returns-in-Some-clause-met
returns-in-Some-clause-met g c =
    let t : Terms = record { rule = c.self.inside.rule; bound = c.self.inside.bound } in
    subst (λ (s : Terms). IsMet s c.in-Some.orbit) c.self.view_is
    (of_some (IsMet t) c.in-Some.is
    (c.in_ok-orbit.ensures.met t (All-same (IsMet t) _ _ c.deref.ensures.value c.self.invariant.right)))

pub invariant_of-self : goal.invariant_of-self
invariant_of-self g c =
    let t : Terms = record { rule = c.self.inside.rule; bound = c.self.inside.bound } in
    record {
      terms = c.self.invariant.terms;
      right = c.keep.ensures t c.self.invariant.right (record {
        rule = of_some (λ (o : Course). o.rule ≡ t.rule) c.in-Some-2.is c.in_ok-orbit-2.ensures.rule;
        recurs = of_some IsCourse c.in-Some-2.is c.in_ok-orbit-2.ensures.recurs;
        period =
            let least = of_some (λ (o : Course). o.period ≤ c.args.tried) c.in-Some-2.is c.in_ok-orbit-2.ensures.period in
            let most = subst (λ (s : Terms). c.args.tried ≤ s.bound) (sym c.self.view_is) c.requires.most in
            omega arith;
      });
    }

pub invariant_of-self-2 : goal.invariant_of-self-2
invariant_of-self-2 g c =
    let t : Terms = record { rule = c.self.inside.rule; bound = c.self.inside.bound } in
    record {
      terms = c.self.invariant.terms;
      right = c.keep.ensures t c.self.invariant.right (record {
        rule = of_some (λ (o : Course). o.rule ≡ t.rule) c.in-Some-2.is c.in_ok-orbit-2.ensures.rule;
        recurs = of_some IsCourse c.in-Some-2.is c.in_ok-orbit-2.ensures.recurs;
        period =
            let least = of_some (λ (o : Course). o.period ≤ c.args.tried) c.in-Some-2.is c.in_ok-orbit-2.ensures.period in
            let most = subst (λ (s : Terms). c.args.tried ≤ s.bound) (sym c.self.view_is) c.requires.most in
            omega arith;
      });
    }
