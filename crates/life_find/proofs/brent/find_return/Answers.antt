use Rattle.std.proofs.Common.{◌≡◌, ◌+◌, length, sym, ap, subst, ◌∙◌, arith}
use borrow.Author.Tests.{eqb-true}
use Rattle.std.specs.List.{filter, range_with_len}
use Rattle.life_model.specs.Evolution.{next, generation}
use Rattle.life_model.specs.Symmetry.{normal}
use Rattle.life_model.proofs.Recurrences.{generation-next, generation-add}
use Rattle.life_find.specs.Fingerprint.{IsFingerprint}
use Rattle.life_find.specs.Quiet.{IsQuiet}
use Rattle.life_plane.specs.Offsets.{IsOffset}
use Rattle.life_find.specs.Search.{AreFingerprints, ends_alike, from_first}
use Rattle.life_find.proofs.Apart.{IsApart, IsApart-start, IsApart-next, IsReturn-found}
use Rattle.life_find.proofs.Quiet.{quiet_none}
use Rattle.life_find.proofs.Possible.{length-more, AreFingerprints-more, AreLeft-start, AreLeft-next, nowhere_left, nowhere_past}
use Rattle.life_find.proofs.brent.find_return.Goals as goal

pub loop-lead-init : goal.loop-lead-init
loop-lead-init g c =
    let R = c.args.rule.now in
    let G = c.args.cells.now in
    let b = c.args.bound in
    let list = c.find_return_within.new.fingerprints.items in
    let there = rw c.in_default.is at c.in_ok-known.ensures.there in
    let age = rw c.in_default.is at c.in_ok-known.ensures.age in
    let more = c.push.new.self.items in
    let before : length list ≡ b = rw c.in_default.is at c.in_ok-known.ensures.count in
    let marked : IsFingerprint (generation R G b) c.fingerprint_of-marked.result =
    subst (λ H. IsFingerprint H c.fingerprint_of-marked.result) (c.in_ok-anchor.ensures.cells ∙ there) c.fingerprint_of-marked.ensures in
    let count : length more ≡ b + 1 = length-more R G list more c.fingerprint_of-marked.result b c.in_ok-push.ensures.items before in
    let are : AreFingerprints R G more =
    AreFingerprints-more R G list more c.fingerprint_of-marked.result b c.in_ok-push.ensures.items before c.in_ok-known.ensures.fingerprints marked in
    let here : b ≡ b + 0 = omega arith in
    record {
      there = there ∙ ap (generation R G) here;
      aged = age ∙ here;
      counted = count ∙ ap (λ n. n + 1) here;
      fingerprints = are;
      apart = IsApart-start R (generation R G b);
      quiet = quiet_none R _ _ _ c.new-lookout.ensures;
      left = AreLeft-start R G b more _ are count
          (c.as_slice-periods.ensures.value ∙ c.in_ok-candidates.ensures ∙ ap (λ l. filter (ends_alike l) (range_with_len 1 b)) c.deref.ensures.value);
    }

pub returns-then-is_empty-clause-none : goal.returns-then-is_empty-clause-none
returns-then-is_empty-clause-none g c =
    let none : length c.loop-lead.periods.now ≡ 0 = omega (arith, eqb-true _ 0 (sym c.is_empty.ensures ∙ c.if-is_empty.true)) in
    nowhere_left c.args.rule.now c.args.cells.now c.args.bound c.loop-lead.periods.now none c.loop-lead.invariant.left

pub look-requires-clause-quiet : goal.look-requires-clause-quiet
look-requires-clause-quiet g c =
    let R = c.args.rule.now in
    let H = generation R c.args.cells.now c.args.bound in
    let here : c.in_ok-anchor.anchor ≡ H = c.in_ok-anchor.ensures.cells ∙ rw c.in_default.is at c.in_ok-known.ensures.there in (
      R,
      subst (λ A. IsQuiet R A (g.P.Plane.members c.step.new.self) c.loop-lead.lookout.quiet) (sym here)
          (subst (λ F. IsQuiet R H F c.loop-lead.lookout.quiet) (sym c.in_ok-step.ensures.cells) c.loop-lead.invariant.quiet),
    )

pub returns-in-Some-offset-clause-found : goal.returns-in-Some-offset-clause-found
returns-in-Some-offset-clause-found g c =
    let R = c.args.rule.now in
    let G = c.args.cells.now in
    let b = c.args.bound in
    let n = c.loop-lead.lead in
    let H = generation R G b in
    let d = c.in-Some-offset.displacement in
    let at = c.loop-lead.invariant in
    let here : c.in_ok-anchor.anchor ≡ H = c.in_ok-anchor.ensures.cells ∙ rw c.in_default.is at c.in_ok-known.ensures.there in
    let there : g.P.Plane.members c.step.new.self ≡ generation R H (n + 1) =
    c.in_ok-step.ensures.cells ∙ ap (next R) (at.there ∙ sym (generation-add R G b n)) ∙ sym (generation-next R H n) in
    let offset = rw c.in-Some-offset.is at c.in_ok-sight.ensures.offset in
    IsReturn-found R H n at.apart d (subst (λ F. IsOffset H F d) there (subst (λ F. IsOffset F (g.P.Plane.members c.step.new.self) d) here offset))

pub returns-in-Some-offset-clause-seen : goal.returns-in-Some-offset-clause-seen
returns-in-Some-offset-clause-seen g c =
    let R = c.args.rule.now in
    let G = c.args.cells.now in
    let n = c.args.bound + c.loop-lead.lead in
    c.in_ok-step.ensures.cells ∙ ap (next R) c.loop-lead.invariant.there ∙ sym (generation-next R G n)
    ∙ ap (generation R G) (let e : n + 1 ≡ c.args.bound + (c.loop-lead.lead + 1) = omega arith in e)

pub returns-in-Some-offset-clause-fingerprints : goal.returns-in-Some-offset-clause-fingerprints
returns-in-Some-offset-clause-fingerprints g c =
    let R = c.args.rule.now in
    let G = c.args.cells.now in
    let age = c.args.bound + c.loop-lead.lead in
    let at = c.loop-lead.invariant in
    let there = c.in_ok-step.ensures.cells ∙ ap (next R) at.there ∙ sym (generation-next R G age) in
    AreFingerprints-more R G c.loop-lead.fingerprints.items c.push-in-loop-lead.new.self.items c.in_ok-sight.sight.fingerprint (age + 1)
    c.in_ok-push-2.ensures.items at.counted at.fingerprints (subst (λ H. IsFingerprint H c.in_ok-sight.sight.fingerprint) there c.in_ok-sight.ensures.fingerprint)

pub loop-lead-preserved : goal.loop-lead-preserved
loop-lead-preserved g c =
    let R = c.args.rule.now in
    let G = c.args.cells.now in
    let b = c.args.bound in
    let n = c.loop-lead.lead in
    let age = b + n in
    let H = generation R G b in
    let at = c.loop-lead.invariant in
    let before = c.loop-lead.fingerprints.items in
    let after = c.push-in-loop-lead.new.self.items in
    let later : age + 1 ≡ b + (n + 1) = omega arith in
    let here : c.in_ok-anchor.anchor ≡ H = c.in_ok-anchor.ensures.cells ∙ rw c.in_default.is at c.in_ok-known.ensures.there in
    let there : g.P.Plane.members c.step.new.self ≡ generation R G (age + 1) =
    c.in_ok-step.ensures.cells ∙ ap (next R) at.there ∙ sym (generation-next R G age) in
    let again : g.P.Plane.members c.step.new.self ≡ generation R H (n + 1) = there ∙ ap (generation R G) later ∙ sym (generation-add R G b (n + 1)) in
    let aged : g.P.Plane.steps_made c.step.new.self ≡ age + 1 = c.in_ok-step.ensures.age ∙ ap (λ k. k + 1) at.aged in
    let missed = rw c.in_default-offset.is at c.in_ok-sight.ensures.apart in
    let counted : length after ≡ (age + 1) + 1 = length-more R G before after c.in_ok-sight.sight.fingerprint (age + 1) c.in_ok-push-2.ensures.items at.counted in
    let fingerprints : AreFingerprints R G after = AreFingerprints-more R G before after c.in_ok-sight.sight.fingerprint (age + 1)
    c.in_ok-push-2.ensures.items at.counted at.fingerprints (subst (λ H. IsFingerprint H c.in_ok-sight.sight.fingerprint) there c.in_ok-sight.ensures.fingerprint) in
    record {
      there = there ∙ ap (generation R G) later;
      aged = aged ∙ later;
      counted = counted ∙ ap (λ k. k + 1) later;
      fingerprints = fingerprints;
      apart = IsApart-next R H n at.apart (λ e. missed (ap normal here ∙ e ∙ ap normal (sym again)));
      quiet = subst (λ A. IsQuiet R A (next R (g.P.Plane.members c.step.new.self)) c.look.new.self.quiet) here
          (c.in_ok-sight.ensures.quiet R (subst (λ A. IsQuiet R A (g.P.Plane.members c.step.new.self) c.loop-lead.lookout.quiet) (sym here)
          (subst (λ F. IsQuiet R H F c.loop-lead.lookout.quiet) (sym c.in_ok-step.ensures.cells) at.quiet)));
      left = AreLeft-next R G b after c.loop-lead.periods.now _ fingerprints (omega arith) at.left
          (c.strike_periods-periods.ensures ∙ ap (λ l. from_first (ends_alike l) c.loop-lead.periods.now) c.deref-in-loop-lead.ensures.value);
    }

pub returns-clause-none : goal.returns-clause-none
returns-clause-none g c =
    let R = c.args.rule.now in
    let G = c.args.cells.now in
    let b = c.args.bound in
    let past = c.loop-lead-test.false in
    let end : c.loop-lead.lead ≡ b = omega arith in
    nowhere_past R G b (subst (IsApart R (generation R G b)) end c.loop-lead.invariant.apart)
