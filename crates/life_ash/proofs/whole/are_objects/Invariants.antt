use Rattle.std.proofs.Common.{ℕ, ◌<◌, slice_index_or}
use Rattle.life_objects.specs.Ash.{IsObject}
use Rattle.life_orbit.specs.Course.{Course}
use Rattle.life_ash.proofs.whole.are_objects.Given as goal

-- the sets so far are objects
abbrev pub invariant-loop-orbit : goal.invariant-loop-orbit
invariant-loop-orbit g l =
    (k : ℕ) (e : Course) → k < l.orbit-index → IsObject l.rule l.bound (slice_index_or l.orbits k e).set
