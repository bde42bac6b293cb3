use Rattle.life_tracks.specs.Frames.Ties.{AreSameRoots}
use Rattle.life_tracks.proofs.frames.forest.flatten.Given as goal

-- each number keeps its root
abbrev pub invariant-loop-n : goal.invariant-loop-n
invariant-loop-n l = AreSameRoots l.fn.forest.items l.forest.items
