use Rattle.std.proofs.Common.{◌≡◌, filter, ap, subst, ◌∙◌, arith}
use Rattle.std.specs.List.{All, AllPairs, Contains}
use Rattle.std.proofs.lemmas.List.Elements.{All-same}
use Rattle.std.proofs.lemmas.Option.{IfSome_then}
use Rattle.std.proofs.lemmas.Result.{IfOk-weaker}
use Rattle.life_model.specs.Generation.{Generation, cells}
use Rattle.life_cells.specs.Limits.{IsWithin}
use Rattle.life_objects.specs.Apart.{AreApartFor}
use Rattle.life_objects.specs.Union.{generations}
use Rattle.life_objects.specs.Whole.{StaysWhole}
use Rattle.life_classes.specs.Tracking.{first_sets}
use Rattle.life_orbit.specs.Kept.{orbit_age_limit}
use Rattle.life_ash.specs.Living.{has_cells}
use Rattle.life_ash.specs.Parts.{AreEndsOfCourses, IsEnd, ash_age_limit}
use Rattle.life_ash.proofs.Cores.{ash_by_ends, no_end}
use Rattle.life_orbit.proofs.Finding.{none_then}
use Rattle.life_ash.proofs.Following.{ends_within}
use Rattle.life_ash.proofs.Places.{placed_at}
use Rattle.life_ash.proofs.Survivors.{ends}
use Rattle.life_ash.proofs.parts.only_parts.Given.{Over}
use Rattle.life_ash.proofs.parts.only_parts.Goals as goal

pub parts_of-requires : goal.parts_of-requires
parts_of-requires g c =
    let R = c.rule-rule.result in
    let b = c.bound-bound.result in
    let Ls = first_sets c.in_ok-classes.field-0.items in
    let age = c.in_ok-copy.ensures.age in
    let young = c.requires.young in
    let few = c.bound-bound.ensures.short in
    let listed : c.as_slice.result.now ≡ ends R b Ls =
    c.as_slice.ensures.value ∙ c.in_ok-lasts.ensures
    ∙ ap (filter has_cells) {y = generations R Ls b} c.in_ok-classes.ensures.later in
    record {
      ago = (c.bound-bound.ensures.some, omega arith);
      within = All-same (λ Q. All (IsWithin orbit_age_limit) (cells Q)) _ _ listed
          (ends_within R (g.P.Plane.steps_made c.in_ok-copy.copy) b orbit_age_limit (g.P.Plane.members c.in_ok-copy.copy) Ls
          c.in_ok-classes.ensures.together (omega arith) c.age-age.ensures.within);
    }

-- what has become of the classes that live on
listed : (g : Over) (c : goal.After-drop-lasts g) → c.as_slice.result.now
    ≡ ends c.args.known.now.rule c.args.known.now.bound (first_sets c.in_ok-classes.field-0.items)
listed g c =
    c.as_slice.ensures.value ∙ c.in_ok-lasts.ensures ∙ ap (filter has_cells) c.in_ok-classes.ensures.later
    ∙ (λ i. ends (c.rule-rule.ensures i) (c.bound-bound.ensures.value i) (first_sets c.in_ok-classes.field-0.items))

-- none of the classes is torn
stay : (g : Over) (c : goal.After-drop-lasts g) →
    All (StaysWhole c.args.known.now.rule c.args.known.now.bound (g.P.Plane.members c.args.plane.now))
    (first_sets c.in_ok-classes.field-0.items)
stay g c =
    let Ls = first_sets c.in_ok-classes.field-0.items in
    let here = g.P.Plane.members c.args.plane.now in
    subst (λ n. All (StaysWhole c.args.known.now.rule n here) Ls) c.bound-bound.ensures.value
    (subst (λ S. All (StaysWhole S c.bound-bound.result here) Ls) c.rule-rule.ensures
    (subst (λ H. All (StaysWhole c.rule-rule.result c.bound-bound.result H) Ls) c.in_ok-copy.ensures.cells
    c.in_ok-classes.ensures.whole))

-- no two of them come near each other
apart : (g : Over) (c : goal.After-drop-lasts g) →
    AllPairs (AreApartFor c.args.known.now.rule c.args.known.now.bound) (first_sets c.in_ok-classes.field-0.items)
apart g c =
    let Ls = first_sets c.in_ok-classes.field-0.items in
    subst (λ n. AllPairs (AreApartFor c.args.known.now.rule n) Ls) c.bound-bound.ensures.value
    (subst (λ S. AllPairs (AreApartFor S c.bound-bound.result) Ls) c.rule-rule.ensures c.in_ok-classes.ensures.apart)

placed : (g : Over) (c : goal.After-drop-lasts g) → All (IsWithin ash_age_limit) (cells (g.P.Plane.members c.args.plane.now))
placed g c =
    let young = c.requires.young in
    let age = c.in_ok-copy.ensures.age in
    placed_at (g.P.Plane.steps_made c.in_ok-copy.copy) _ (g.P.Plane.members c.args.plane.now) c.in_ok-copy.ensures.cells
    (omega arith) c.age-age.ensures.within

pub returns-clause-only : goal.returns-clause-only
returns-clause-only g c =
    let R = c.args.known.now.rule in
    let b = c.args.known.now.bound in
    IfOk-weaker c.parts_of.result _ _
    (λ found h. IfSome_then found h
    (λ orbits told parts ash. ash_by_ends R b (g.P.Plane.members c.args.plane.now)
    (first_sets c.in_ok-classes.field-0.items) (c.in_ok-classes.ensures.together ∙ c.in_ok-copy.ensures.cells) (stay g c)
    (apart g c) parts ash (placed g c) orbits.items
    (subst (λ n. AreEndsOfCourses R b n (ends R b (first_sets c.in_ok-classes.field-0.items)) orbits.items)
    c.bound-bound.ensures.value
    (subst (λ Qs. AreEndsOfCourses R b c.bound-bound.result Qs orbits.items) (listed g c) told))))
    c.parts_of.ensures.sets

pub returns-clause-none : goal.returns-clause-none
returns-clause-none g c =
    let R = c.args.known.now.rule in
    let b = c.args.known.now.bound in
    IfOk-weaker c.parts_of.result _ _
    (λ found h. none_then found h
    (λ no parts ash. no_end R b (g.P.Plane.members c.args.plane.now)
    (first_sets c.in_ok-classes.field-0.items) (c.in_ok-classes.ensures.together ∙ c.in_ok-copy.ensures.cells) (stay g c)
    (apart g c) parts ash (placed g c) no.0
    (subst (λ Qs. Contains Qs no.0) (listed g c) no.1)
    (subst (λ n. (P : Generation) → IsEnd R b n no.0 P → ⊥) c.bound-bound.ensures.value no.2)))
    c.parts_of.ensures.none
