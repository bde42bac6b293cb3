use Rattle.std.proofs.Common.{ℕ, pos, ◌+ℤ◌, ◌<◌, ◌≤ℤ◌}
use Rattle.life_things.specs.Tries.{ClearTowards}
use Rattle.life_things.proofs.tries.are_clear_in_field.Given as goal

-- it is clear towards each place of the rows before this one
abbrev pub invariant-loop-row : goal.invariant-loop-row
invariant-loop-row l =
    (m n : ℕ) → m < l.row → (l.field.left +ℤ pos n) ≤ℤ l.field.right →
    ClearTowards l.one l.other l.tries l.gauge (l.field.left +ℤ pos n, l.field.top +ℤ pos m)
