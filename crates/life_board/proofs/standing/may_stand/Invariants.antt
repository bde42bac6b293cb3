use Rattle.std.proofs.Common.{ℕ, pos, ◌+ℤ◌, ◌<◌, slice_index}
use Rattle.life_tile.specs.Standing.{HasNoneInRow}
use Rattle.life_board.specs.Squares.{members_of}
use Rattle.life_board.proofs.standing.may_stand.Given as goal

-- the cells are not in the rows before this one
abbrev pub invariant-loop-y : goal.invariant-loop-y
invariant-loop-y l = (v : ℕ) → v < l.y → HasNoneInRow (members_of l.square) l.cells 0 (slice_index l.square.tile.rows v) (l.square.left, l.square.top +ℤ pos v)
