use Rattle.std.proofs.Common.{ℕ, ◌<◌}
use Rattle.life_tracks.specs.Lines.{IsSibling}
use Rattle.life_tracks.proofs.lines.has_sibling.Given as goal

-- those looked at are no siblings
abbrev pub invariant-loop-other : goal.invariant-loop-other
invariant-loop-other l = (j : ℕ) → j < l.other → IsSibling l.parents l.place j → ⊥
