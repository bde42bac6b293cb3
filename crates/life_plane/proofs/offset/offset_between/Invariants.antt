use Rattle.std.proofs.Common.{◌≡◌, ℕ, ◌<◌, get_or}
use Rattle.life_model.specs.Cell.{origin, plus}
use Rattle.life_plane.proofs.offset.offset_between.Given as goal

-- the cells so far are those of the first list, moved
abbrev pub invariant-loop-i : goal.invariant-loop-i
invariant-loop-i l = (k : ℕ) → k < l.i → get_or l.to k origin ≡ plus (get_or l.from k origin) l.offset
