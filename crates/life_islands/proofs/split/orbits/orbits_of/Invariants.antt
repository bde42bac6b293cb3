use Rattle.std.proofs.Common.{◌≡◌, map, take}
use Rattle.std.specs.List.{All}
use Rattle.life_objects.specs.Limits.{objects_bound_limit}
use Rattle.life_orbit.specs.Course.{Course}
use Rattle.life_islands.specs.Split.Courses.{IsCourseWithin}
use Rattle.life_islands.proofs.split.orbits.orbits_of.Given as goal

abbrev pub invariant-loop-part : goal.invariant-loop-part
invariant-loop-part g l = record {
  sets : map (λ (o : Course). o.set) l.orbits.items ≡ take l.part-index l.parts;
  courses : All (IsCourseWithin l.orbit.rule objects_bound_limit) l.orbits.items;
}
