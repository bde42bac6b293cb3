use Rattle.std.proofs.Common.{◌≡◌, ℕ, pos, ◌+ℤ◌, ◌<◌}
use Rattle.std.specs.Int.{bit_at}
use Rattle.life_model.specs.Cell.{Cell}
use Rattle.life_tile.specs.Standing.{AreMembers, IsLedTo}
use Rattle.life_tile.specs.TileStores.{members_of}
use Rattle.life_tile.proofs.standing.may_stand_in_row.Given as goal

-- a bit is left if a move leads the leading cell to it and makes all of them members
abbrev pub invariant-loop-n : goal.invariant-loop-n
invariant-loop-n l = (j : ℕ) (d : Cell) → j < 64 → bit_at l.word j ≡ 1 → IsLedTo l.cells l.lead d (l.start.0 +ℤ pos j, l.start.1) →
    AreMembers (members_of l.store) l.cells d → bit_at l.left j ≡ 1

-- a bit is left if a move leads the leading cell to it and makes all of them members
abbrev pub invariant-loop-n-2 : goal.invariant-loop-n-2
invariant-loop-n-2 l = (j : ℕ) (d : Cell) → j < 64 → bit_at l.word j ≡ 1 → IsLedTo l.cells l.lead d (l.start.0 +ℤ pos j, l.start.1) →
    AreMembers (members_of l.store) l.cells d → bit_at l.left j ≡ 1
