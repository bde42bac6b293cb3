use Rattle.std.proofs.Common.{◌≡◌, length, sym, ap, subst, ◌∙◌, arith}
use Rattle.std.proofs.lemmas.List.{length_push}
use Rattle.life_ash.proofs.Finding.{of_some}
use Rattle.life_growth.specs.Engine.{FallsApart}
use Rattle.life_growing.specs.Settled.Settling.{IsSettling}
use Rattle.life_tracks.specs.Tracks.{way_of}
use Rattle.life_tracks.proofs.Pushing.{each_more}
use Rattle.life_growing.proofs.GoingCores.{left_of_step}
use Rattle.life_growing.proofs.GoingLefts.{of_none, within_then}
use Rattle.life_growing.proofs.lefts.lefts_along.Goals as goal

pub settled-requires-clause-within : goal.settled-requires-clause-within
settled-requires-clause-within g c =
    let n = c.loop-n.n in
    let path = c.args.track.now in
    let inside = c.loop-n-test.true in
    let end = c.period-n-end.ensures in
    let left : c.left-left.result.now ≡ (way_of path).left n =
    c.left-left.ensures
    ∙ left_of_step path c.steps.result.now c.steps.ensures c.index-steps-n.result n (omega arith) c.index-steps-n.is in
    within_then c.args.age n c.left-left.result.now ((way_of path).left n) (sym left)
    (c.requires.within.lefts n (omega arith))

pub returns-in-None-clause-none : goal.returns-in-None-clause-none
returns-in-None-clause-none g c all =
    let n = c.loop-n.n in
    let path = c.args.track.now in
    let inside = c.loop-n-test.true in
    let end = c.period-n-end.ensures in
    let left : c.left-left.result.now ≡ (way_of path).left n =
    c.left-left.ensures
    ∙ left_of_step path c.steps.result.now c.steps.ensures c.index-steps-n.result n (omega arith) c.index-steps-n.is in
    of_none (FallsApart c.args.rule.now c.args.bound c.left-left.result.now → ⊥) c.in-None.is c.in_ok-it.ensures.none
    (subst (FallsApart c.args.rule.now c.args.bound) (sym left) (all n (omega arith)))

pub loop-n-preserved : goal.loop-n-preserved
loop-n-preserved g c =
    let n = c.loop-n.n in
    let path = c.args.track.now in
    let R = c.args.rule.now in
    let b = c.args.bound in
    let inside = c.loop-n-test.true in
    let end = c.period-n-end.ensures in
    let left : c.left-left.result.now ≡ (way_of path).left n =
    c.left-left.ensures
    ∙ left_of_step path c.steps.result.now c.steps.ensures c.index-steps-n.result n (omega arith) c.index-steps-n.is in
    let old = c.loop-n.lefts.items in
    let it = c.in-Some.it in
    let count = c.loop-n.invariant.count in
    let is = c.in_ok-push-in-Some.ensures.items in
    let long = ap length is ∙ length_push old it in
    record {
      count = omega arith;
      each = each_more old c.push.new.self.items it n count is (λ k s. IsSettling R b ((way_of path).left k) s)
          c.loop-n.invariant.each
          (subst (λ G. IsSettling R b G it) left
          (of_some (IsSettling R b c.left-left.result.now) c.in-Some.is c.in_ok-it.ensures.some));
    }
