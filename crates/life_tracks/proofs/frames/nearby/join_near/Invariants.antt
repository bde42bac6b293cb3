use Rattle.std.proofs.Common.{ℕ, ◌<◌}
use Rattle.life_tracks.specs.Frames.Nearby.{AreJoinedByNear, IsJoinedAt}
use Rattle.life_tracks.proofs.frames.nearby.join_near.Given as goal

-- each cell looked at is joined with those before it that are near
abbrev pub invariant-loop-n : goal.invariant-loop-n
invariant-loop-n l = record {
  nearer : AreJoinedByNear l.list l.fn.forest.items l.forest.items;
  at : (k : ℕ) → k < l.n → IsJoinedAt l.list l.forest.items k;
}
