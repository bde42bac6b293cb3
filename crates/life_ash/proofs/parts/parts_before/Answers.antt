use Rattle.std.proofs.Common.{◌≡◌, subst, ◌∙◌, arith}
use Rattle.std.specs.List.{All, Contains}
use Rattle.std.proofs.lemmas.List.Elements.{All-map, All-same, All-weaker}
use Rattle.std.proofs.lemmas.Option.{IfSome_then}
use Rattle.std.proofs.lemmas.Result.{IfOk-weaker}
use Rattle.life_model.specs.Generation.{cells}
use Rattle.life_cells.specs.Limits.{IsWithin}
use Rattle.life_orbit.specs.Kept.{orbit_age_limit}
use Rattle.life_apart.specs.Sets.{sets_of}
use Rattle.life_ash.specs.Parts.{AreEndsOfCourses, IsPlaced, ash_age_limit}
use Rattle.life_orbit.proofs.Finding.{none_then}
use Rattle.life_cells.proofs.Places.{itself_within}
use Rattle.life_ash.proofs.Sooner.{ash_by_later, no_set_before}
use Rattle.life_ash.proofs.parts.parts_before.Given.{Over}
use Rattle.life_ash.proofs.parts.parts_before.Goals as goal

pub parts_of-requires-clause-within : goal.parts_of-requires-clause-within
parts_of-requires-clause-within g c =
    All-same (λ Q. All (IsWithin orbit_age_limit) (cells Q)) _ _ (c.as_slice.ensures.value ∙ c.in_ok-lasts.ensures)
    (All-map (λ Q. All (IsWithin orbit_age_limit) (cells Q)) (λ o. o.set) c.args.later.now
    (All-weaker IsPlaced (λ o. All (IsWithin orbit_age_limit) (cells o.set))
    (λ o placed. itself_within ash_age_limit orbit_age_limit (omega arith) o.set placed) c.args.later.now c.requires.placed))

listed : (g : Over) (c : goal.After-drop-lasts g) → c.as_slice.result.now ≡ sets_of c.args.later.now
listed g c = c.as_slice.ensures.value ∙ c.in_ok-lasts.ensures

placed : (g : Over) (c : goal.After-drop-lasts g) → All (IsWithin ash_age_limit) (cells (g.P.Plane.members c.args.plane.now))
placed g c =
    let young = c.requires.young in
    itself_within (g.P.Plane.steps_made c.args.plane.now) ash_age_limit (omega arith) (g.P.Plane.members c.args.plane.now)
    c.age-age.ensures.within

pub returns-clause-only : goal.returns-clause-only
returns-clause-only g c =
    let R = c.args.known.now.rule in
    let b = c.args.known.now.bound in
    IfOk-weaker c.parts_of.result _ _
    (λ found h. IfSome_then found h
    (λ orbits told parts ash. ash_by_later R b c.args.ago (g.P.Plane.members c.args.plane.now) (sets_of c.args.later.now)
    c.requires.ash (placed g c) parts ash orbits.items
    (subst (λ Qs. AreEndsOfCourses R b c.args.ago Qs orbits.items) (listed g c) told)))
    c.parts_of.ensures.sets

pub returns-clause-none : goal.returns-clause-none
returns-clause-none g c =
    let R = c.args.known.now.rule in
    let b = c.args.known.now.bound in
    IfOk-weaker c.parts_of.result _ _
    (λ found h. none_then found h
    (λ no parts ash. no_set_before R b c.args.ago (g.P.Plane.members c.args.plane.now) (sets_of c.args.later.now)
    c.requires.ash (placed g c) parts ash no.0
    (subst (λ Qs. Contains Qs no.0) (listed g c) no.1) no.2))
    c.parts_of.ensures.none
