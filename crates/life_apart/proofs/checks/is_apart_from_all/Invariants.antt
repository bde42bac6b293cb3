use Rattle.std.proofs.Common.{ℕ, ◌<◌, slice_index_or}
use Rattle.life_objects.specs.Apart.{AreApartForEver}
use Rattle.life_orbit.specs.Course.{Course}
use Rattle.life_apart.proofs.checks.is_apart_from_all.Given as goal

-- the set is apart for ever from the others so far
abbrev pub invariant-loop-other : goal.invariant-loop-other
invariant-loop-other l =
    (k : ℕ) (e : Course) → k < l.other-index →
    AreApartForEver l.orbit.rule l.orbit.set (slice_index_or l.others k e).set
