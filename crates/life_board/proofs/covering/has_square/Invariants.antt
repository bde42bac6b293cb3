use Rattle.std.proofs.Common.{◌≡◌, ℕ, pos, ◌+ℤ◌, ◌<◌}
use Rattle.life_model.specs.Cell.{plus, opposite}
use Rattle.life_plane.specs.Area.{tile_cell}
use Rattle.life_slots.specs.Ends.{IsMember}
use Rattle.life_board.specs.Squares.{members_of}
use Rattle.life_board.proofs.covering.has_square.Given as goal

-- the live cells of the rows before this one, moved, are live
abbrev pub invariant-loop-y : goal.invariant-loop-y
invariant-loop-y l = (v : ℕ) → v < l.y → (x : ℕ) → x < 64 → tile_cell l.other.tile x v ≡ 1 →
    IsMember (members_of l.square) (plus (l.other.left +ℤ pos x, l.other.top +ℤ pos v) (plus l.fn.to (opposite l.fn.from)))
