use Rattle.std.proofs.Common.{◌<◌, ◌++◌, ◌∙◌, ap, sym, refl, get_or, set, arith, length}
use Rattle.std.proofs.lemmas.List.{get_or_default}
use Rattle.census_readback.specs.Counts.{same_object, sum_with, with_more}
use Rattle.census_readback.proofs.Counted.{passed-all, passed-none, passed-one, passed-to}
use Rattle.census_readback.proofs.sums.count_among.Goals as goal

pub loop-at-init : goal.loop-at-init
loop-at-init c = record { same = refl; passed = passed-none c.args.counted.now c.args.object.now c.args.count }

pub returns-then-eq-clause-yes : goal.returns-then-eq-clause-yes
returns-then-eq-clause-yes c _ rest =
    let k = c.args.object.now in
    let at = c.loop-at.at in
    let e = c.index-counted-at.result in
    let less : at < length c.loop-at.counted = omega (arith, c.loop-at-test.true, c.loop-at.auto.counted) in
    let there = c.index-counted-at.is ∙ ap (λ w. get_or w at e) c.loop-at.invariant.same in
    let is-same = ap (λ x. same_object k x.0) c.index-counted-at.is ∙ sym c.eq.ensures ∙ c.if-eq.true in
    let object = c.index-counted-at.is ∙ get_or_default c.loop-at.counted at e c.index-counted-at-then-eq-2.result less in
    let before = c.index-counted-at.is ∙ get_or_default c.loop-at.counted at e c.index-counted-at-then-eq.result less in
    let sum = ap (λ x. sum_with x.1 c.args.count) before ∙ sym c.sum_with.ensures in
    passed-to c.args.counted.now k c.args.count at e c.loop-at.invariant.passed c.loop-at-test.true there is-same rest
    ∙ ap (λ w. set w at (e.0, sum_with e.1 c.args.count) ++ rest) (sym c.loop-at.invariant.same)
    ∙ ap (λ x. set c.loop-at.counted at (x.0, sum_with e.1 c.args.count) ++ rest) object
    ∙ ap (λ s. set c.loop-at.counted at ((get_or c.loop-at.counted at c.index-counted-at-then-eq-2.result).0, s) ++ rest) sum

pub loop-at-preserved : goal.loop-at-preserved
loop-at-preserved c =
    let e = c.index-counted-at.result in
    let there = c.index-counted-at.is ∙ ap (λ w. get_or w c.loop-at.at e) c.loop-at.invariant.same in
    record {
      same = c.loop-at.invariant.same;
      passed = passed-one c.args.counted.now c.args.object.now c.args.count c.loop-at.at e c.loop-at.invariant.passed c.loop-at-test.true there
          (ap (λ x. same_object c.args.object.now x.0) c.index-counted-at.is ∙ sym c.eq.ensures ∙ c.if-eq.false);
    }

pub returns-clause-no : goal.returns-clause-no
returns-clause-no c _ rest =
    passed-all c.args.counted.now c.args.object.now c.args.count c.loop-at.at c.loop-at.invariant.passed c.loop-at-test.false rest
    ∙ ap (λ w. w ++ with_more c.args.object.now c.args.count rest) (sym c.loop-at.invariant.same)
