use Rattle.std.proofs.Common.{◌≡◌, ◌*◌, ◌≤◌, length, map, take}
use Rattle.census_format.specs.Objects.{objects, same_object, tally}
use Rattle.census_format.proofs.closing.tally_of.Given as goal

abbrev pub invariant-loop-answer : goal.invariant-loop-answer
invariant-loop-answer l =
    (l.counts.entries ≡ tally same_object (objects (map (λ a. a.now) (take l.answer-index l.answers))))
    × (length (objects (map (λ a. a.now) (take l.answer-index l.answers))) ≤ l.answer-index * 4294967296)
