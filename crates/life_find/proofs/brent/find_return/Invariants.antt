use Rattle.std.proofs.Common.{◌≡◌, ◌+◌, length}
use Rattle.life_model.specs.Evolution.{generation, next}
use Rattle.life_find.specs.Quiet.{IsQuiet}
use Rattle.life_find.specs.Search.{AreFingerprints}
use Rattle.life_find.proofs.Apart.{IsApart}
use Rattle.life_find.proofs.Possible.{AreLeft}
use Rattle.life_find.proofs.brent.find_return.Given as goal

-- No generation past the bound is that at the bound, and each possible period is still a candidate.
abbrev pub invariant-loop-lead : goal.invariant-loop-lead
invariant-loop-lead g l =
    let age = l.bound + l.lead in
    record {
      there : g.P.Plane.members l.runner ≡ generation l.rule l.cells age;
      aged : g.P.Plane.steps_made l.runner ≡ age;
      counted : length l.fingerprints.items ≡ age + 1;
      fingerprints : AreFingerprints l.rule l.cells l.fingerprints.items;
      apart : IsApart l.rule (generation l.rule l.cells l.bound) l.lead;
      quiet : IsQuiet l.rule (generation l.rule l.cells l.bound) (next l.rule (g.P.Plane.members l.runner)) l.lookout.quiet;
      left : AreLeft l.rule l.cells l.bound l.periods;
    }
