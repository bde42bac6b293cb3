use Rattle.std.proofs.Common.{◌≡◌, ℕ, pos, ◌+ℤ◌, ◌<◌, slice_index}
use Rattle.std.specs.Int.{bit_at}
use Rattle.life_model.specs.Cell.{Cell}
use Rattle.life_tile.specs.Standing.{AreMembers, IsLedTo}
use Rattle.life_board.specs.Squares.{members_of}
use Rattle.life_board.proofs.standing.may_stand_in_row.Given as goal

-- a bit is left if a move leads the first cell to it and makes all of them members
abbrev pub invariant-loop-n : goal.invariant-loop-n
invariant-loop-n l = (j : ℕ) (d : Cell) → j < 64 → bit_at (slice_index l.square.tile.rows l.y) j ≡ 1 →
    IsLedTo l.cells 0 d (l.square.left +ℤ pos j, l.square.top +ℤ pos l.y) →
    AreMembers (members_of l.square) l.cells d → bit_at l.left j ≡ 1
