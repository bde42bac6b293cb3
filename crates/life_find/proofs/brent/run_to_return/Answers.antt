use Rattle.std.proofs.Common.{◌≡◌, ◌+◌, length, refl, sym, ap, subst, ◌∙◌, arith, add-zero, add_assoc}
use Rattle.life_model.specs.Evolution.{next, generation}
use Rattle.life_model.specs.Symmetry.{normal}
use Rattle.life_model.proofs.Recurrences.{generation-zero, generation-next, generation-add}
use Rattle.life_find.specs.Fingerprint.{IsFingerprint}
use Rattle.life_find.specs.Quiet.{IsQuiet}
use Rattle.life_plane.specs.Offsets.{IsOffset}
use Rattle.life_find.proofs.Apart.{IsApart-start, IsApart-next, IsReturn-found}
use Rattle.life_find.proofs.Quiet.{quiet_none}
use Rattle.life_find.proofs.Possible.{AreFingerprints-more, length-more}
use Rattle.life_find.proofs.brent.run_to_return.Goals as goal

pub loop-taken-init : goal.loop-taken-init
loop-taken-init g c = record {
  there = sym (generation-zero _ _);
  aged = sym (add-zero _);
  apart = IsApart-start _ _;
  quiet = quiet_none _ _ _ _ c.new-lookout.ensures;
  latest = subst (λ H. IsFingerprint H c.fingerprint_of-marked.result) c.requires.listed c.fingerprint_of-marked.ensures;
  counted = sym (add-zero _);
  fingerprints = λ first age e n are. are;
}

pub look-requires-clause-quiet : goal.look-requires-clause-quiet
look-requires-clause-quiet g c =
    let R = c.args.rule.now in
    (R, subst (λ H. IsQuiet R c.args.listed.now H c.loop-taken.lookout.quiet) (sym c.in_ok-step.ensures.cells) c.loop-taken.invariant.quiet)

pub returns-in-Some-clause-found : goal.returns-in-Some-clause-found
returns-in-Some-clause-found g c =
    let R = c.args.rule.now in
    let G = g.P.Plane.members c.args.runner.now in
    let n = c.loop-taken.taken in
    let d = c.in-Some.displacement in
    let at = c.loop-taken.invariant in
    let there : g.P.Plane.members c.step.new.self ≡ generation R G (n + 1) =
    c.in_ok-step.ensures.cells ∙ ap (next R) at.there ∙ sym (generation-next R G n) in
    let offset = rw c.in-Some.is at c.in_ok-sight.ensures.offset in
    IsReturn-found R G n at.apart d (subst (λ H. IsOffset G H d) there (subst (λ F. IsOffset F (g.P.Plane.members c.step.new.self) d) c.requires.listed offset))

pub returns-in-Some-clause-seen : goal.returns-in-Some-clause-seen
returns-in-Some-clause-seen g c =
    let R = c.args.rule.now in
    c.in_ok-step.ensures.cells ∙ ap (next R) c.loop-taken.invariant.there ∙ sym (generation-next R (g.P.Plane.members c.args.runner.now) c.loop-taken.taken)

pub returns-in-Some-clause-fingerprints : goal.returns-in-Some-clause-fingerprints
returns-in-Some-clause-fingerprints g c = c.loop-taken.invariant.fingerprints

pub loop-taken-preserved : goal.loop-taken-preserved
loop-taken-preserved g c =
    let R = c.args.rule.now in
    let G = g.P.Plane.members c.args.runner.now in
    let n = c.loop-taken.taken in
    let at = c.loop-taken.invariant in
    let there : g.P.Plane.members c.step.new.self ≡ generation R G (n + 1) =
    c.in_ok-step.ensures.cells ∙ ap (next R) at.there ∙ sym (generation-next R G n) in
    let missed = rw c.in_default.is at c.in_ok-sight.ensures.apart in
    let counted : length c.loop-taken.fingerprints.items ≡ length c.args.fingerprints.now.items + n = at.counted in
    let more : length c.note.new.fingerprints.items ≡ length c.loop-taken.fingerprints.items + 1 =
    length-more R G c.loop-taken.fingerprints.items c.note.new.fingerprints.items c.loop-taken.latest (length c.loop-taken.fingerprints.items) c.in_ok-note.ensures refl in
    record {
      there = there;
      aged = c.in_ok-step.ensures.age ∙ ap (λ k. k + 1) at.aged ∙ add_assoc _ _ _;
      apart = IsApart-next R G n at.apart (λ e. missed (ap normal c.requires.listed ∙ e ∙ ap normal (sym there)));
      quiet = c.in_ok-sight.ensures.quiet R (subst (λ H. IsQuiet R c.args.listed.now H c.loop-taken.lookout.quiet) (sym c.in_ok-step.ensures.cells) at.quiet);
      counted = omega arith;
      latest = c.in_ok-sight.ensures.fingerprint;
      fingerprints = λ first age e count are.
          let here : g.P.Plane.members c.loop-taken.runner ≡ generation R first (age + n) =
          at.there ∙ ap (λ H. generation R H n) e ∙ generation-add R first age n in
          AreFingerprints-more R first c.loop-taken.fingerprints.items c.note.new.fingerprints.items c.loop-taken.latest (age + n)
          c.in_ok-note.ensures (omega arith) (at.fingerprints first age e count are) (subst (λ H. IsFingerprint H c.loop-taken.latest) here at.latest);
    }
