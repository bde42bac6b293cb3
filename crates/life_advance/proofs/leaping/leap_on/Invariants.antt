use Rattle.std.proofs.Common.{◌≡◌, ◌≤◌}
use Rattle.life_advance.specs.Later.{IsLater}
use Rattle.life_advance.specs.Leaps.Planes.{rule_of, steps_made}
use Rattle.life_advance.proofs.leaping.leap_on.Given as goal

abbrev pub invariant-leaps : goal.invariant-leaps
invariant-leaps l =
    (steps_made l.plane ≤ l.until) × (rule_of l.plane ≡ rule_of l.fn.plane) × IsLater (rule_of l.fn.plane) l.fn.plane.0 l.plane.0
