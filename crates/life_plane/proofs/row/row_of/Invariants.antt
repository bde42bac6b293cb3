use Rattle.std.proofs.Common.{◌≡◌, ℕ, ◌<◌, ◌≤◌, ◌+ℤ◌, pos, cond}
use Rattle.std.specs.Int.{bit_at}
use Rattle.life_plane.specs.Field.{has}
use Rattle.life_plane.proofs.row.row_of.Given as goal

abbrev pub invariant-loop-n : goal.invariant-loop-n
invariant-loop-n l = record {
  few : l.n ≤ 64;
  before : (j : ℕ) → j < l.n → bit_at l.word j ≡ cond (has l.cells (l.cell.0 +ℤ pos j, l.cell.1)) 1 0;
  later : (j : ℕ) → l.n ≤ j → bit_at l.word j ≡ 0;
}
