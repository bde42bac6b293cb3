use Rattle.std.proofs.Common.{◌≡◌, ◌+◌, ◌≤◌, ◌++◌, drop, length, take}
use Rattle.census_rows.specs.Kinds.{present}
use Rattle.census_rows.specs.Values.{list_of, numbers_of, words_of}
use Rattle.census_rows.proofs.values.Values.of.Given as goal

abbrev pub invariant-loop-field : goal.invariant-loop-field
invariant-loop-field l =
    (l.values.count + length (numbers_of (present (drop l.field-index l.fields))) ≤ 4)
    × (take l.values.count l.values.numbers ++ numbers_of (present (drop l.field-index l.fields)) ≡ numbers_of (present l.fields))
    × (list_of l.values.word ++ words_of (present (drop l.field-index l.fields)) ≡ words_of (present l.fields))
