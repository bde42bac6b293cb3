use Rattle.std.proofs.Common.{◌≡◌, map, take}
use Rattle.life_census.specs.Courses.{course_code}
use Rattle.life_census.proofs.counted.codes_in_order.Given as goal

-- the codes so far
abbrev pub invariant-loop-n : goal.invariant-loop-n
invariant-loop-n l = l.codes.items ≡ map course_code (take l.n l.orbits)
