use Rattle.std.proofs.Common.{◌*◌, sym, subst, arith}
use Rattle.std.specs.List.{All}
use Rattle.std.proofs.lemmas.List.Elements.{All-same}
use Rattle.std.proofs.lemmas.Result.{IfOk-weaker}
use Rattle.life_model.specs.Evolution.{generation}
use Rattle.life_objects.specs.Ash.{IsAsh}
use Rattle.life_apart.specs.Onsets.Moments.{IsMomentOf}
use Rattle.life_ash.specs.Ahead.{HasEnded, IsFound}
use Rattle.life_ash.specs.Fates.{IsFate}
use Rattle.life_ash.specs.Met.{Terms}
use Rattle.life_apart.specs.Sets.{IsCourseBy, sets_of}
use Rattle.life_ash.proofs.Ways.{found_from_start, nothing_from_start, trail_from_start}
use Rattle.life_ash.proofs.pattern.fate.Goals as goal

pub returns-in-Large : goal.returns-in-Large
returns-in-Large g c =
    subst (IsFound c.args.rule.now c.args.bound c.args.cells.now c.args.limit 0 c.args.bound (3 * c.args.bound))
    c.in-Large.is
    (found_from_start c.new-met.result c.args.rule.now c.args.bound c.args.cells.now c.args.limit
    (g.P.Plane.steps_made c.in_ok-plane.plane) (g.P.Plane.members c.in_ok-plane.plane) c.in_ok-generation.field-0
    c.new-met.ensures.rule c.new-met.ensures.bound c.in_ok-plane.ensures.cells c.in_ok-plane.ensures.age
    c.in_ok-generation.ensures.found)

pub of-requires-clause-placed : goal.of-requires-clause-placed
of-requires-clause-placed g c =
    let found =
    subst (IsFound c.args.rule.now c.args.bound c.args.cells.now c.args.limit 0 c.args.bound (3 * c.args.bound))
    c.in-Parts.is
    (found_from_start c.new-met.result c.args.rule.now c.args.bound c.args.cells.now c.args.limit
    (g.P.Plane.steps_made c.in_ok-plane.plane) (g.P.Plane.members c.in_ok-plane.plane) c.in_ok-generation.field-0
    c.new-met.ensures.rule c.new-met.ensures.bound c.in_ok-plane.ensures.cells c.in_ok-plane.ensures.age
    c.in_ok-generation.ensures.found) in
    found.3.placed

pub of-requires-clause-courses : goal.of-requires-clause-courses
of-requires-clause-courses g c =
    let found =
    subst (IsFound c.args.rule.now c.args.bound c.args.cells.now c.args.limit 0 c.args.bound (3 * c.args.bound))
    c.in-Parts.is
    (found_from_start c.new-met.result c.args.rule.now c.args.bound c.args.cells.now c.args.limit
    (g.P.Plane.steps_made c.in_ok-plane.plane) (g.P.Plane.members c.in_ok-plane.plane) c.in_ok-generation.field-0
    c.new-met.ensures.rule c.new-met.ensures.bound c.in_ok-plane.ensures.cells c.in_ok-plane.ensures.age
    c.in_ok-generation.ensures.found) in
    found.3.courses

pub returns-in-Parts : goal.returns-in-Parts
returns-in-Parts g c =
    let R = c.args.rule.now in
    let G = c.args.cells.now in
    let b = c.args.bound in
    let age = c.in-Parts.age in
    let found =
    subst (IsFound c.args.rule.now c.args.bound c.args.cells.now c.args.limit 0 c.args.bound (3 * c.args.bound))
    c.in-Parts.is
    (found_from_start c.new-met.result c.args.rule.now c.args.bound c.args.cells.now c.args.limit
    (g.P.Plane.steps_made c.in_ok-plane.plane) (g.P.Plane.members c.in_ok-plane.plane) c.in_ok-generation.field-0
    c.new-met.ensures.rule c.new-met.ensures.bound c.in_ok-plane.ensures.cells c.in_ok-plane.ensures.age
    c.in_ok-generation.ensures.found) in
    let more = found.1 in (
      found.2,
      omega arith,
      subst (λ os. IsAsh R b (generation R G age) (sets_of os)) (sym c.of.ensures) found.3.ash,
      All-same (IsCourseBy R) _ _ c.of.ensures found.3.rule,
      subst (λ S. All (IsMomentOf S G) c.walk_on.new.trail) c.new-met.ensures.rule
          (trail_from_start c.new-met.result G (g.P.Plane.steps_made c.in_ok-plane.plane)
          (g.P.Plane.members c.in_ok-plane.plane) c.new-trail.result c.walk_on.new.trail c.in_ok-plane.ensures.cells
          c.in_ok-plane.ensures.age c.new-trail.ensures c.walk_on.ensures.trail),
    )

pub fate_past-requires-clause-later : goal.fate_past-requires-clause-later
fate_past-requires-clause-later g c =
    let both =
    nothing_from_start c.new-met.result c.walk_on.new.met c.args.bound c.args.cells.now c.args.limit
    (g.P.Plane.steps_made c.in_ok-plane.plane) (g.P.Plane.steps_made c.walk_on.new.plane)
    (g.P.Plane.members c.in_ok-plane.plane) (g.P.Plane.members c.walk_on.new.plane) c.walk_on.ensures.same
    c.new-met.ensures.bound c.in_ok-plane.ensures.cells c.in_ok-plane.ensures.age
    (subst (HasEnded c.args.bound (g.P.Plane.steps_made c.walk_on.new.plane)) c.in-Nothing.is c.in_ok-generation.ensures.ended)
    c.walk_on.ensures.reached
    (λ L start none. subst
    (IsFound c.new-met.result.rule c.new-met.result.bound L c.args.limit (g.P.Plane.steps_made c.in_ok-plane.plane)
    c.args.bound (3 * c.args.bound)) c.in-Nothing.is (c.in_ok-generation.ensures.found L start none)) in
    (c.args.cells.now, both.0, both.1)

pub returns : goal.returns
returns g c =
    let R = c.args.rule.now in
    let G = c.args.cells.now in
    let both =
    nothing_from_start c.new-met.result c.walk_on.new.met c.args.bound c.args.cells.now c.args.limit
    (g.P.Plane.steps_made c.in_ok-plane.plane) (g.P.Plane.steps_made c.walk_on.new.plane)
    (g.P.Plane.members c.in_ok-plane.plane) (g.P.Plane.members c.walk_on.new.plane) c.walk_on.ensures.same
    c.new-met.ensures.bound c.in_ok-plane.ensures.cells c.in_ok-plane.ensures.age
    (subst (HasEnded c.args.bound (g.P.Plane.steps_made c.walk_on.new.plane)) c.in-Nothing.is c.in_ok-generation.ensures.ended)
    c.walk_on.ensures.reached
    (λ L start none. subst
    (IsFound c.new-met.result.rule c.new-met.result.bound L c.args.limit (g.P.Plane.steps_made c.in_ok-plane.plane)
    c.args.bound (3 * c.args.bound)) c.in-Nothing.is (c.in_ok-generation.ensures.found L start none)) in
    let kept =
    subst (λ (t : Terms). All (IsMomentOf t.rule G) c.walk_on.new.trail) (sym c.walk_on.ensures.same)
    (trail_from_start c.new-met.result G (g.P.Plane.steps_made c.in_ok-plane.plane)
    (g.P.Plane.members c.in_ok-plane.plane) c.new-trail.result c.walk_on.new.trail c.in_ok-plane.ensures.cells
    c.in_ok-plane.ensures.age c.new-trail.ensures c.walk_on.ensures.trail) in
    IfOk-weaker c.fate_past.result _ _
    (λ fate told.
    subst (λ n. IsFate R G n c.args.limit fate) c.new-met.ensures.bound
    (subst (λ S. IsFate S G c.new-met.result.bound c.args.limit fate) c.new-met.ensures.rule
    (subst (λ (t : Terms). IsFate t.rule G t.bound c.args.limit fate) c.walk_on.ensures.same (told G both.0 both.1 kept))))
    c.fate_past.ensures
