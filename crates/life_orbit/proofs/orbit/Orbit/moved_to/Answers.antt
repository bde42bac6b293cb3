use Rattle.std.proofs.Common.{◌≡◌, IfSome, map, sym, ap, subst, ◌∙◌, get_or}
use Rattle.std.proofs.lemmas.List.Elements.{All-same}
use Rattle.life_model.specs.Generation.{Generation, empty}
use Rattle.life_model.specs.Symmetry.{translate_of}
use Rattle.life_orbit.specs.Course.{Course}
use Rattle.life_orbit.specs.Hulls.{HoldsAllCells}
use Rattle.life_orbit.specs.Kept.{ArePhasesOfOrbit}
use Rattle.life_orbit.proofs.Moves.{kept_first, kept_there}
use Rattle.life_orbit.proofs.orbit.Orbit.moved_to.Goals as goal

-- what is made of the phases
phases_are : (c : goal.After-result-2-1) → c.in-Some-2.phases.items ≡ map (λ (P : Generation). translate_of P c.in-Some.by) c.self.inside.phases.items
phases_are c =
    subst (λ found. IfSome found (λ all. all.items ≡ map (λ (P : Generation). translate_of P c.in-Some.by) c.as_slice.result.now))
    c.in-Some-2.is c.in_ok-phases.ensures
    ∙ ap (map (λ (P : Generation). translate_of P c.in-Some.by)) c.as_slice.ensures.value

kept : (c : goal.After-result-2-1) → ArePhasesOfOrbit c.self.inside.rule (get_or c.in-Some-2.phases.items 0 empty) c.in-Some-2.phases.items c.self.inside.displacement
kept c =
    kept_there c.self.inside.rule c.in-Some.by c.self.inside.phases.items c.self.inside.displacement c.self.invariant.0
    c.in-Some-2.phases.items (phases_are c)

pub invariant_of-result : goal.invariant_of-result
invariant_of-result c = (
  kept c,
  All-same (HoldsAllCells c.hull_of-hull.result) c.in-Some-2.phases.items c.as_slice-3.result.now
      (sym c.as_slice-3.ensures.value) c.hull_of-hull.ensures,
)

pub returns-clause-recurs : goal.returns-clause-recurs
returns-clause-recurs c = let held = kept c in record { recurs = held.recurs; least = held.least }

pub returns-clause-set : goal.returns-clause-set
returns-clause-set c =
    let by = c.in-Some.by in
    kept_first c.self.inside.rule by c.self.inside.phases.items c.self.inside.displacement c.self.invariant.0
    c.in-Some-2.phases.items (phases_are c)
    ∙ ap (λ (P : Generation). translate_of P by) (ap (λ (o : Course). o.set) c.self.view_is ∙ sym c.set.ensures)
    ∙ sym c.in-Some.ensures.offset.move
