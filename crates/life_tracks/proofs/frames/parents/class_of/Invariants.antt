use Rattle.std.proofs.Common.{◌≡◌, ℕ, ◌<◌, false, get_or}
use Rattle.life_model.specs.Generation.{contains, empty}
use Rattle.life_tracks.proofs.frames.parents.class_of.Given as goal

-- those looked at don't have the cell
abbrev pub invariant-loop-n : goal.invariant-loop-n
invariant-loop-n l = (k : ℕ) → k < l.n → contains (get_or l.classes k empty) l.cell ≡ false
