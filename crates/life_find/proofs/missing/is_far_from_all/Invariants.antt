use Rattle.std.proofs.Common.{ℕ, pos, ◌<◌, slice_index_or}
use Rattle.life_model.specs.Cell.{Cell, opposite, plus}
use Rattle.life_find.specs.Quiet.{IsReachedBy}
use Rattle.life_find.proofs.missing.is_far_from_all.Given as goal

-- the cells before this one are far
abbrev pub invariant-loop-other : goal.invariant-loop-other
invariant-loop-other l = (k : ℕ) (d : Cell) → k < l.other-index → IsReachedBy (pos l.reach) (plus l.cell (plus l.to (opposite l.from))) (slice_index_or l.cells k d) → ⊥
