use Rattle.std.proofs.Common.{◌≡◌, ℕ, ◌+◌, length}
use Rattle.life_model.specs.Generation.{Generation}
use Rattle.life_model.specs.Evolution.{generation, next}
use Rattle.life_find.specs.Fingerprint.{IsFingerprint}
use Rattle.life_find.specs.Quiet.{IsQuiet}
use Rattle.life_find.specs.Search.{AreFingerprints}
use Rattle.life_find.proofs.Apart.{IsApart}
use Rattle.life_find.proofs.brent.run_to_return.Given as goal

abbrev pub invariant-loop-taken : goal.invariant-loop-taken
invariant-loop-taken g l =
    let start = g.P.Plane.members l.fn.runner in
    let before = l.fn.fingerprints.items in
    record {
      there : g.P.Plane.members l.runner ≡ generation l.rule start l.taken;
      aged : g.P.Plane.steps_made l.runner ≡ g.P.Plane.steps_made l.fn.runner + l.taken;
      apart : IsApart l.rule start l.taken;
      quiet : IsQuiet l.rule l.listed (next l.rule (g.P.Plane.members l.runner)) l.lookout.quiet;
      latest : IsFingerprint (g.P.Plane.members l.runner) l.latest;
      counted : length l.fingerprints.items ≡ length before + l.taken;
      fingerprints : (first : Generation) (age : ℕ) → start ≡ generation l.rule first age → length before ≡ age → AreFingerprints l.rule first before → AreFingerprints l.rule first l.fingerprints.items;
    }
