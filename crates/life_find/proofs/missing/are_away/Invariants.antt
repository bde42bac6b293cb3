use Rattle.std.proofs.Common.{ℕ, pos, ◌<◌, slice_index_or}
use Rattle.life_model.specs.Cell.{Cell, origin, opposite, plus}
use Rattle.life_find.specs.Quiet.{IsMissed}
use Rattle.life_find.proofs.missing.are_away.Given as goal

-- a listed cell is missed wherever the first one is moved to one of the cells before this one
abbrev pub invariant-loop-to : goal.invariant-loop-to
invariant-loop-to l = (k : ℕ) (d : Cell) → k < l.to-index →
    IsMissed (pos l.reach) l.listed l.cells (plus (slice_index_or l.cells k d) (opposite (slice_index_or l.listed 0 origin)))
