use Rattle.std.proofs.Common.{◌≡◌, ◌≤◌, ◌++◌, ◌∷◌, [], sym, ap, subst, ◌∙◌}
use Rattle.std.specs.List.{All}
use Rattle.std.proofs.lemmas.List.Elements.{All-push, All-same}
use Rattle.life_model.specs.Generation.{Generation, cells}
use Rattle.life_cells.specs.Limits.{IsWithin}
use Rattle.life_orbit.specs.Course.{Course}
use Rattle.life_ash.specs.Met.{IsMet}
use Rattle.life_ash.specs.Parts.{IsFit, ash_age_limit}
use Rattle.life_ash.proofs.Finding.{of_some}
use Rattle.life_ash.proofs.guess.orbits_of.Goals as goal

pub loop-class-preserved : goal.loop-class-preserved
loop-class-preserved g c =
    let R = c.args.known.now.rule in
    let b = c.args.known.now.bound in
    let o = c.in-Some.orbit in
    let at = c.loop-class.invariant in
    let met = of_some (IsMet c.loop-class.known) c.in-Some.is c.in_ok-orbit.ensures.met in
    let set = of_some (λ (x : Course). x.set ≡ c.class-item.result.first) c.in-Some.is c.in_ok-orbit.ensures.set in
    let first : All (IsWithin ash_age_limit) (cells c.class-item.result.first) =
    subst (λ x. All (IsWithin ash_age_limit) (cells x.first)) (sym c.class-item.is)
    (c.requires.within c.loop-class.class-index c.class-item.result c.loop-class-test.true) in
    let fit : IsFit R b o = record {
      rule = met.rule ∙ ap (λ t. t.rule) at.same;
      recurs = met.recurs;
      period = subst (λ n. o.period ≤ n) (ap (λ t. t.bound) at.same) met.period;
      within = subst (λ (G : Generation). All (IsWithin ash_age_limit) (cells G)) (sym set) first;
    } in
    record {
      fit = All-same (IsFit R b) _ (c.loop-class.orbits.items ++ o ∷ []) c.in_ok-push-in-Some.ensures.items
          (All-push (IsFit R b) c.loop-class.orbits.items o at.fit fit);
      same = c.orbit_of.ensures.same ∙ at.same;
    }
