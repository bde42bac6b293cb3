use Rattle.std.proofs.Common.{◌≡◌, ◌==◌, true, List, [], length, sym, ap, subst, ◌∙◌, true≢false}
use Rattle.std.specs.List.{All}
use Rattle.std.proofs.lemmas.Bool.{OnTrue_at, eqb-false, eqb-true}
use Rattle.std.proofs.lemmas.List.{nil_from_length}
use Rattle.life_ash.proofs.Finding.{of_none, of_some}
use Rattle.life_model.specs.Generation.{cells}
use Rattle.life_cells.specs.Limits.{IsWithin}
use Rattle.life_classes.specs.Tracking.{first_sets}
use Rattle.life_objects.specs.Union.{union_of}
use Rattle.life_growth.specs.Engine.{FallsApart}
use Rattle.life_growth.specs.Growth.{IsGrowth}
use Rattle.life_growing.specs.Settled.Settling.{IsSettling}
use Rattle.life_growing.specs.Loose.{HasLoose}
use Rattle.life_growing.specs.Meeting.{GoApart}
use Rattle.life_growing.specs.Growths.{starts_of}
use Rattle.life_growing.proofs.Loosening.{none_grows}
use Rattle.life_growing.proofs.PickingGrowth.{is_growth, others_within, same_growth, sets_within, told_apart}
use Rattle.life_growing.proofs.growth.growth_of.Goals as goal

no_items : {A : Type 0} (xs : List A) → (length xs == 0) ≡ true → xs ≡ []
no_items xs h = nil_from_length xs (eqb-true (length xs) 0 h)

pub picks-requires-clause-within : goal.picks-requires-clause-within
picks-requires-clause-within g c =
    let G = g.P.Plane.members c.args.plane.now in
    sets_within c.args.rule.now c.age-age.result G (first_sets c.in_ok-classes.classes.items)
    c.in_ok-classes.ensures.together
    (subst (λ a. All (IsWithin a) (cells G)) (sym c.age-age.ensures.age) c.age-age.ensures.within)

pub one_is_loose-requires-clause-within : goal.one_is_loose-requires-clause-within
one_is_loose-requires-clause-within g c =
    let G = g.P.Plane.members c.args.plane.now in
    subst (λ cs. All (λ P. All (IsWithin c.age-age.result) (cells P)) (first_sets cs)) (sym c.as_slice.ensures.value)
    (sets_within c.args.rule.now c.age-age.result G (first_sets c.in_ok-classes.classes.items)
    c.in_ok-classes.ensures.together
    (subst (λ a. All (IsWithin a) (cells G)) (sym c.age-age.ensures.age) c.age-age.ensures.within))

pub returns-then-branch-clause-none : goal.returns-then-branch-clause-none
returns-then-branch-clause-none g c long Es S growth =
    let R = c.args.rule.now in
    let all = c.in_ok-classes.ensures in
    none_grows R c.args.bound c.args.length (g.P.Plane.members c.args.plane.now)
    (first_sets c.in_ok-classes.classes.items) all.together all.whole all.apart long
    (subst (λ cs. HasLoose R c.args.bound (first_sets cs)) c.as_slice.ensures.value
    (OnTrue_at c.if-branch.true c.in_ok-one_is_loose.ensures)) Es S growth

pub returns-then-is_empty-clause-none : goal.returns-then-is_empty-clause-none
returns-then-is_empty-clause-none g c long Es S growth =
    let all = c.in_ok-classes.ensures in
    let picks = c.in_ok-picks.picks in
    (same_growth c.args.rule.now c.args.bound c.args.length (g.P.Plane.members c.args.plane.now)
    (first_sets c.in_ok-classes.classes.items) all.together picks.engines.items picks.others.items c.in_ok-picks.ensures
    all.whole all.apart long Es S growth).some
    (ap starts_of (sym c.as_slice-engines.ensures.value
    ∙ no_items c.as_slice-engines.result.now (sym c.is_empty.ensures ∙ c.if-is_empty.true)))

pub settled-requires-clause-within : goal.settled-requires-clause-within
settled-requires-clause-within g c =
    let G = g.P.Plane.members c.args.plane.now in
    let picks = c.in_ok-picks.picks in
    subst (λ P. All (IsWithin c.age-age.result) (cells P))
    (sym (c.in_ok-rest.ensures ∙ ap union_of c.as_slice-2.ensures.value))
    (others_within c.args.rule.now c.args.bound c.args.length G (first_sets c.in_ok-classes.classes.items)
    c.in_ok-classes.ensures.together picks.engines.items picks.others.items c.in_ok-picks.ensures c.age-age.result
    (subst (λ a. All (IsWithin a) (cells G)) (sym c.age-age.ensures.age) c.age-age.ensures.within))

pub returns-in_default-clause-none : goal.returns-in_default-clause-none
returns-in_default-clause-none g c long Es S growth =
    let R = c.args.rule.now in
    let b = c.args.bound in
    let all = c.in_ok-classes.ensures in
    let picks = c.in_ok-picks.picks in
    of_none c.in_default.is c.in_ok-debris.ensures.none
    (subst (FallsApart R b) (sym (c.in_ok-rest.ensures ∙ ap union_of c.as_slice-2.ensures.value))
    (same_growth R b c.args.length (g.P.Plane.members c.args.plane.now)
    (first_sets c.in_ok-classes.classes.items) all.together picks.engines.items picks.others.items c.in_ok-picks.ensures
    all.whole all.apart long Es S growth).settles)

pub returns-then-not-branch-clause-none : goal.returns-then-not-branch-clause-none
returns-then-not-branch-clause-none g c long Es S growth =
    let R = c.args.rule.now in
    let b = c.args.bound in
    let all = c.in_ok-classes.ensures in
    let picks = c.in_ok-picks.picks in
    let settles = of_some (IsSettling R b c.in_ok-rest.rest) c.in-Some.is c.in_ok-debris.ensures.some in
    let apart = told_apart R b c.args.length (g.P.Plane.members c.args.plane.now)
    (first_sets c.in_ok-classes.classes.items) all.together picks.engines.items picks.others.items c.in_ok-picks.ensures
    all.whole all.apart c.in-Some.debris
    (subst (λ P. IsSettling R b P c.in-Some.debris) (c.in_ok-rest.ensures ∙ ap union_of c.as_slice-2.ensures.value) settles)
    long Es S growth in
    true≢false (sym (c.in_ok-stay_apart.ensures.1
    (subst (λ es. GoApart es c.in-Some.debris) (sym c.as_slice-engines.ensures.value) apart)) ∙ c.if-not-branch.true)

pub returns-clause-some : goal.returns-clause-some
returns-clause-some g c =
    let R = c.args.rule.now in
    let b = c.args.bound in
    let G = g.P.Plane.members c.args.plane.now in
    let all = c.in_ok-classes.ensures in
    let picks = c.in_ok-picks.picks in
    let same = c.in_ok-rest.ensures ∙ ap union_of c.as_slice-2.ensures.value in
    let settles = of_some (IsSettling R b c.in_ok-rest.rest) c.in-Some.is c.in_ok-debris.ensures.some in
    let go : GoApart picks.engines.items c.in-Some.debris =
    subst (λ es. GoApart es c.in-Some.debris) c.as_slice-engines.ensures.value (c.in_ok-stay_apart.ensures.0 c.if-not-branch.false) in
    record {
      set = c.in_ok-rest.rest;
      growth = subst (IsGrowth R b G (starts_of picks.engines.items)) (sym same)
          (is_growth R b c.args.length G (first_sets c.in_ok-classes.classes.items) all.together picks.engines.items
          picks.others.items c.in_ok-picks.ensures c.in-Some.debris
          (subst (λ P. IsSettling R b P c.in-Some.debris) same settles)
          (λ none. eqb-false (length c.as_slice-engines.result.now) 0 (sym c.is_empty.ensures ∙ c.if-is_empty.false)
          (ap length (c.as_slice-engines.ensures.value ∙ none))) go);
      engines = c.in_ok-picks.ensures.found;
      debris = settles;
    }
