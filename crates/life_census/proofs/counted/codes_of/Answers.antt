use Rattle.std.proofs.Common.{false, true, sym, subst, arith}
use Rattle.std.specs.List.{All}
use Rattle.std.proofs.lemmas.Result.{IfOk-weaker}
use Rattle.life_objects.specs.Limits.{objects_bound_limit}
use Rattle.life_parts.specs.Parts.Parts.{AreIndependentParts}
use Rattle.life_apart.specs.Sets.{sets_of}
use Rattle.life_ash.specs.Parts.{IsPlaced, ash_age_limit}
use Rattle.life_cells.proofs.Places.{itself_within}
use Rattle.life_orbit.specs.Kept.{orbit_age_limit}
use Rattle.life_islands.specs.Split.Courses.{IsCourseWithin}
use Rattle.life_census.specs.Counted.{CountsAs}
use Rattle.life_census.proofs.MovedCodes.{counts_everywhere}
use Rattle.life_census.proofs.PartsFound.{counts_as_parts, counts_as_whole}
use Rattle.life_census.proofs.counted.codes_of.Goals as goal

pub part_orbits-requires : goal.part_orbits-requires
part_orbits-requires c = record {
  within = itself_within ash_age_limit orbit_age_limit (omega arith) c.args.orbit.now.set c.requires.within;
}

pub returns-then-near : goal.returns-then-near
returns-then-near c =
    let o = c.args.orbit.now in
    IfOk-weaker c.one_code.result _ _
    (λ codes is.
    subst (λ near. CountsAs near o.rule o.set codes.items) (sym c.if-near.true)
    (counts_everywhere true o c.requires.course codes.items is)) c.one_code.ensures

pub codes_in_order-requires : goal.codes_in_order-requires
codes_in_order-requires c = record {
  within =
      let placed = rw c.in-Some.is at c.in_ok-parts.ensures.within in
      subst (All IsPlaced) (sym c.as_slice.ensures.value) (placed ash_age_limit c.requires.within);
}

pub returns-in-Some : goal.returns-in-Some
returns-in-Some c =
    let o = c.args.orbit.now in
    let same = sym c.as_slice.ensures.value in
    let are = subst (λ os. AreIndependentParts o.rule o.set (sets_of os)) same
    (rw c.in-Some.is at c.in_ok-parts.ensures.parts) in
    let within = subst (All (IsCourseWithin o.rule objects_bound_limit)) same
    (rw c.in-Some.is at c.in_ok-parts.ensures.courses) in
    IfOk-weaker c.codes_in_order.result _ _
    (λ codes is.
    subst (λ near. CountsAs near o.rule o.set codes.items) (sym c.if-near.false)
    (counts_everywhere false o c.requires.course codes.items (counts_as_parts o codes.items c.as_slice.result.now are within is)))
    c.codes_in_order.ensures

pub returns-in-None : goal.returns-in-None
returns-in-None c =
    let o = c.args.orbit.now in
    IfOk-weaker c.one_code-in-None.result _ _
    (λ codes is.
    subst (λ near. CountsAs near o.rule o.set codes.items) (sym c.if-near.false)
    (counts_everywhere false o c.requires.course codes.items
    (counts_as_whole o codes.items c.requires.course
    (rw c.in-None.is at c.in_ok-parts.ensures.none) is))) c.one_code-in-None.ensures
