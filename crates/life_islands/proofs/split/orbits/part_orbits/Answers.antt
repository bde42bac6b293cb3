use Rattle.std.proofs.Common.{sym, subst}
use Rattle.std.specs.List.{All}
use Rattle.std.proofs.lemmas.Result.{IfOk-weaker}
use Rattle.life_model.specs.Generation.{cells}
use Rattle.life_cells.specs.Limits.{IsWithin}
use Rattle.life_objects.specs.Ash.{RecursWithin}
use Rattle.life_objects.specs.Limits.{objects_bound_limit}
use Rattle.life_orbit.specs.Kept.{orbit_age_limit}
use Rattle.life_parts.specs.Parts.Parts.{AreIndependentParts}
use Rattle.life_islands.proofs.Colouring.{none_weaker, some_weaker}
use Rattle.life_islands.proofs.SplitLemmas.Coming.{holds_of_others}
use Rattle.life_islands.proofs.SplitLemmas.Members.{holds_of_courses, holds_of_parts}
use Rattle.life_islands.proofs.split.orbits.part_orbits.Goals as goal
use Rattle.life_islands.proofs.split.orbits.part_orbits.Goals.{After-as_slice}
use Rattle.life_islands.proofs.split.orbits.part_orbits.Given.{Over}

-- what the slice has are the independent parts
these_are : (g : Over) (c : After-as_slice g) → AreIndependentParts c.args.orbit.now.rule c.args.orbit.now.set c.as_slice.result.now
these_are g c =
    subst (AreIndependentParts c.args.orbit.now.rule c.args.orbit.now.set) (sym c.as_slice.ensures.value) c.in_ok-parts.ensures

pub orbits_of-requires : goal.orbits_of-requires
orbits_of-requires g c = record {
  within = holds_of_parts (IsWithin orbit_age_limit) c.args.orbit.now.rule c.args.orbit.now.set c.as_slice.result.now
      (these_are g (goal.at.orbits_of-requires g c).After-as_slice) c.requires.within;
}

pub returns-clause-within : goal.returns-clause-within
returns-clause-within g c =
    let o = c.args.orbit.now in
    let parts = c.as_slice.result.now in
    let are = these_are g (goal.at.returns-clause-within g c).After-as_slice in
    IfOk-weaker c.orbits_of.result _ _
    (λ found.
    some_weaker found _ _ (λ courses same age all.
    holds_of_courses (λ Q. All (IsWithin age) (cells Q)) courses.items parts same
    (holds_of_parts (IsWithin age) o.rule o.set parts are all))) c.orbits_of.ensures.sets

pub returns-clause-none : goal.returns-clause-none
returns-clause-none g c =
    let o = c.args.orbit.now in
    let parts = c.as_slice.result.now in
    let are = these_are g (goal.at.returns-clause-none g c).After-as_slice in
    IfOk-weaker c.orbits_of.result _ _
    (λ found.
    none_weaker found _ _ (λ not others too all.
    not (holds_of_others (RecursWithin o.rule objects_bound_limit) o.rule o.set parts others are too all)))
    c.orbits_of.ensures.none
