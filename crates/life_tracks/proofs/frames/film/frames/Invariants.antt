use Rattle.std.proofs.Common.{◌≡◌, ℕ, ◌+◌, length}
use Rattle.life_model.specs.Rule.{Rule}
use Rattle.life_model.specs.Generation.{Generation}
use Rattle.life_tracks.specs.Frames.Frames.{AreFrames, AreGenerations}
use Rattle.life_tracks.proofs.frames.film.frames.Given as goal

-- the generations that are left, and the frames that are made
abbrev pub invariant-loop-list : goal.invariant-loop-list
invariant-loop-list l = record {
  left : (R : Rule) (G : Generation) (T : ℕ) → AreGenerations R G (T + 1) l.fn.all.items →
      AreGenerations R G (length l.all.items) l.all.items;
  made : (R : Rule) (G : Generation) (T : ℕ) → AreGenerations R G (T + 1) l.fn.all.items →
      AreFrames R G T (length l.frames.items) l.frames.items;
  count : length l.all.items + length l.frames.items ≡ length l.fn.all.items;
}

abbrev pub decreases-loop-list : goal.decreases-loop-list
decreases-loop-list l = length l.all.items
