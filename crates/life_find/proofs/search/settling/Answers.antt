use Rattle.std.proofs.Common.{◌+◌, ◌≤◌, sym, ap, subst, ◌∙◌, arith}
use Rattle.life_model.specs.Evolution.{generation}
use Rattle.life_model.specs.Symmetry.{normal}
use Rattle.life_model.proofs.Moves.{normal-moved}
use Rattle.life_model.proofs.Recurrences.{generation-add, settles_by_period, Settles_from_first}
use Rattle.life_find.specs.Search.{AreFingerprints}
use Rattle.life_find.proofs.Apart.{IsPeriodAt_from_return}
use Rattle.life_find.proofs.Possible.{none_before}
use Rattle.life_find.proofs.search.settling.Goals as goal

pub returns-then-first-last-clause-none : goal.returns-then-first-last-clause-none
returns-then-first-last-clause-none g c h s =
    let R = c.args.rule.now in
    let G = c.args.cells.now in
    let p = c.in-Some.seen.period in
    let t = c.in-Some.seen.onset in
    let found = IsPeriodAt_from_return R G t p c.in-Some.seen.displacement (rw c.in-Some.is at c.in_ok-seen.ensures.found) in
    let near = settles_by_period R G t p found c.args.bound h s in
    let within : h + p ≤ c.args.bound = near.0 in
    let late = c.if-first-last.true in
    let fingerprints = subst (AreFingerprints R G) (sym c.deref.ensures.value) c.in_ok-seen.ensures.fingerprints in
    none_before R G c.deref.result.now fingerprints p c.first_alike-first.result c.first_alike-first.ensures.change h (omega arith) near.1

pub returns-then-seen-first-clause-found : goal.returns-then-seen-first-clause-found
returns-then-seen-first-clause-found g c =
    let R = c.args.rule.now in
    let G = c.args.cells.now in
    let p = c.in-Some.seen.period in
    let t = c.in-Some.seen.onset in
    let d = c.in-Some.seen.displacement in
    let seen = rw c.in-Some.is at c.in_ok-seen.ensures.found in
    let short : p ≤ c.args.bound = rw c.in-Some.is at c.in_ok-seen.ensures.period in
    let soon = c.if-first-last.false in
    let early = c.if-seen-first.true in
    let fingerprints = subst (AreFingerprints R G) (sym c.deref.ensures.value) c.in_ok-seen.ensures.fingerprints in
    Settles_from_first R G t p (IsPeriodAt_from_return R G t p d seen) c.args.bound t d (omega arith)
    (sym (generation-add R G t p) ∙ seen.recurs.again) seen.unmoved
    (λ h before. none_before R G c.deref.result.now fingerprints p c.first_alike-first.result c.first_alike-first.ensures.change h (omega arith))

pub returns-then-seen-first-clause-shape : goal.returns-then-seen-first-clause-shape
returns-then-seen-first-clause-shape g c =
    let R = c.args.rule.now in
    let G = c.args.cells.now in
    let p = c.in-Some.seen.period in
    let t = c.in-Some.seen.onset in
    let seen = rw c.in-Some.is at c.in_ok-seen.ensures.found in
    let there = rw c.in-Some.is at c.in_ok-seen.ensures.seen in
    ap normal (there ∙ sym (generation-add R G t p) ∙ seen.recurs.again) ∙ normal-moved (generation R G t) c.in-Some.seen.displacement

pub settling_from-requires-clause-earlier : goal.settling_from-requires-clause-earlier
settling_from-requires-clause-earlier g c =
    let R = c.args.rule.now in
    let G = c.args.cells.now in
    let fingerprints = subst (AreFingerprints R G) (sym c.deref.ensures.value) c.in_ok-seen.ensures.fingerprints in
    none_before R G c.deref.result.now fingerprints c.in-Some.seen.period c.first_alike-first.result c.first_alike-first.ensures.change
