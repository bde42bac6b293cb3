use Rattle.std.proofs.Common.{refl, ◌+◌, ◌≤◌, ◌∙◌, arith}
use Rattle.life_model.specs.Evolution.{generation}
use Rattle.life_model.specs.Recurrence.{Recurrence}
use Rattle.life_model.proofs.Recurrences.{onset-period-le}
use Rattle.life_find.proofs.Found.{unresolved-found, recurs-found}
use Rattle.life_codes.proofs.Phases.{code_by_shape}
use Rattle.life_find.proofs.finding.outcome_on.Goals as goal

pub returns-in-None : goal.returns-in-None
returns-in-None g c =
    let G = c.args.cells.now in
    let none = rw c.in-None.is at c.in_ok-settling.ensures.none in
    unresolved-found c.args.rule.now G G refl c.args.bound none

pub code_of-requires-clause-young : goal.code_of-requires-clause-young
code_of-requires-clause-young g c =
    let r = c.in-Some.recurrence in
    let recurrence : Recurrence = record { onset = r.onset; period = r.period; displacement = r.displacement } in
    let settles = rw c.in-Some.is at c.in_ok-settling.ensures.found in
    let age = rw c.in-Some.is at c.in_ok-settling.ensures.age in
    let bound = c.requires.bound in
    let within : r.onset + r.period ≤ c.args.bound = onset-period-le c.args.rule.now c.args.cells.now c.args.bound recurrence settles in
    omega arith

pub code_of-requires-clause-period : goal.code_of-requires-clause-period
code_of-requires-clause-period g c =
    let settles = rw c.in-Some.is at c.in_ok-settling.ensures.found in settles.recurs.later

pub returns-in_ok-code-in-Some : goal.returns-in_ok-code-in-Some
returns-in_ok-code-in-Some g c =
    let R = c.args.rule.now in
    let G = c.args.cells.now in
    let r = c.in-Some.recurrence in
    let recurrence : Recurrence = record { onset = r.onset; period = r.period; displacement = r.displacement } in
    let settles = rw c.in-Some.is at c.in_ok-settling.ensures.found in
    let same = rw c.in-Some.is at c.in_ok-settling.ensures.shape in
    c.recurs.ensures
    ∙ recurs-found R G G refl c.args.bound recurrence (generation R G r.onset) c.in_ok-code-in-Some.code settles refl
    (c.in_ok-code-in-Some.ensures ∙ code_by_shape R (g.P.Plane.members c.settling.new.runner) (generation R G r.onset) r.period r.displacement same)

pub code_of-requires-clause-shape : goal.code_of-requires-clause-shape
code_of-requires-clause-shape g c = rw c.in-Some.is at c.in_ok-settling.ensures.shape
