use Rattle.std.proofs.Common.{◌≡◌, ◌+◌, ◌≤◌, length, sym, ap, subst, ◌∙◌, zero-add, arith}
use Rattle.life_model.specs.Evolution.{generation}
use Rattle.life_model.proofs.Recurrences.{generation-zero, generation-add}
use Rattle.life_find.specs.Search.{IsReturn}
use Rattle.life_find.proofs.Possible.{AreFingerprints-none}
use Rattle.life_find.proofs.brent.find_return_within.Goals as goal

pub returns-in-Some-clause-found : goal.returns-in-Some-clause-found
returns-in-Some-clause-found g c =
    let R = c.args.rule.now in
    let G = c.args.cells.now in
    let found = rw c.in-Some.is at c.in_ok-period.ensures.found in
    subst (λ H. IsReturn R H c.in-Some.period c.in-Some.displacement) (sym c.requires.cells ∙ sym (generation-zero R G)) found

pub returns-in-Some-clause-fingerprints : goal.returns-in-Some-clause-fingerprints
returns-in-Some-clause-fingerprints g c =
    let R = c.args.rule.now in
    let G = c.args.cells.now in
    c.in_ok-period.ensures.fingerprints G 0 (sym c.requires.cells ∙ sym (generation-zero R G)) (ap length c.requires.none)
    (AreFingerprints-none R G c.args.fingerprints.now.items c.requires.none)

pub anchors-init : goal.anchors-init
anchors-init g c =
    let R = c.args.rule.now in
    let G = c.args.cells.now in
    let n = c.min-onset.result in
    let bound = c.requires.bound in
    let least = c.min-onset.ensures in
    let zero : length c.args.fingerprints.now.items ≡ 0 = ap length c.requires.none in
    let there = rw c.in_default.is at c.in_ok-period.ensures.there in
    let age = rw c.in_default.is at c.in_ok-period.ensures.age in
    let count : length c.run_to_return.new.fingerprints.items ≡ length c.args.fingerprints.now.items + n = rw c.in_default.is at c.in_ok-period.ensures.count in
    record {
      later = omega arith;
      within = omega arith;
      there = there ∙ ap (λ H. generation R H n) (sym c.requires.cells);
      aged = age ∙ ap (λ k. k + n) c.requires.new ∙ zero-add n;
      counted = omega arith;
      fingerprints = c.in_ok-period.ensures.fingerprints G 0 (sym c.requires.cells ∙ sym (generation-zero R G)) zero
          (AreFingerprints-none R G c.args.fingerprints.now.items c.requires.none);
    }

pub returns-in-Some-2-clause-seen : goal.returns-in-Some-2-clause-seen
returns-in-Some-2-clause-seen g c =
    let R = c.args.rule.now in
    let p = c.in-Some-2.period in
    let seen = rw c.in-Some-2.is at c.in_ok-period-2.ensures.seen in
    seen ∙ ap (λ H. generation R H p) c.anchors.invariant.there ∙ generation-add R c.args.cells.now c.anchors.onset p

pub anchors-preserved : goal.anchors-preserved
anchors-preserved g c =
    let R = c.args.rule.now in
    let G = c.args.cells.now in
    let o = c.anchors.onset in
    let n = c.min-steps.result in
    let at = c.anchors.invariant in
    let later : 1 ≤ o = at.later in
    let least = c.min-steps.ensures in
    let inside = c.anchors-test.true in
    let there = rw c.in_default-2.is at c.in_ok-period-2.ensures.there in
    let age = rw c.in_default-2.is at c.in_ok-period-2.ensures.age in
    let before : length c.anchors.fingerprints.items ≡ o = at.counted in
    let count : length c.run_to_return-in-anchors.new.fingerprints.items ≡ length c.anchors.fingerprints.items + n = rw c.in_default-2.is at c.in_ok-period-2.ensures.count in
    record {
      later = omega arith;
      within = omega arith;
      there = there ∙ ap (λ H. generation R H n) at.there ∙ generation-add R G o n;
      aged = age ∙ ap (λ k. k + n) at.aged;
      counted = omega arith;
      fingerprints = c.in_ok-period-2.ensures.fingerprints G o at.there at.counted at.fingerprints;
    }
