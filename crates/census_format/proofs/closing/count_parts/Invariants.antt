use Rattle.std.proofs.Common.{◌≡◌, ◌++◌, List, take}
use Rattle.census_format.specs.Objects.{Object, part_objects, same_object, tally}
use Rattle.census_format.proofs.closing.count_parts.Given as goal

abbrev pub invariant-loop-part : goal.invariant-loop-part
invariant-loop-part l = (ks : List Object) → l.fn.counts.entries ≡ tally same_object ks → l.counts.entries ≡ tally same_object (ks ++ part_objects l.rule (take l.part-index l.parts))
