-- The rows that the loop has passed have no live cell.
use Rattle.std.proofs.Common.{◌≡◌, ℕ, ◌<◌, slice_index}
use Rattle.life_advance.proofs.leaps.far.cell_of_leaf.Given as goal

abbrev pub invariant-loop-y : goal.invariant-loop-y
invariant-loop-y l = (q : ℕ) → q < l.y → slice_index l.leaf.rows q ≡ 0
