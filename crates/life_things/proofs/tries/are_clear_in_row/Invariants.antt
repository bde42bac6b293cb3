use Rattle.std.proofs.Common.{ℕ, pos, ◌+ℤ◌, ◌<◌}
use Rattle.life_things.specs.Tries.{ClearTowards}
use Rattle.life_things.proofs.tries.are_clear_in_row.Given as goal

-- it is clear towards each column before this one
abbrev pub invariant-loop-column : goal.invariant-loop-column
invariant-loop-column l =
    (n : ℕ) → n < l.column →
    ClearTowards l.one l.other l.tries l.gauge (l.field.left +ℤ pos n, l.field.top +ℤ pos l.row)
