use Rattle.std.proofs.Common.{◌≡◌, ℕ, ◌<◌, length, get_or}
use Rattle.life_growing.specs.Settled.Settling.{IsSettling, Settling}
use Rattle.life_tracks.specs.Tracks.{way_of}
use Rattle.life_growing.proofs.lefts.lefts_along.Given as goal

abbrev pub invariant-loop-n : goal.invariant-loop-n
invariant-loop-n g l = record {
  count : length l.lefts.items ≡ l.n;
  each : (k : ℕ) (d : Settling) → k < l.n →
      IsSettling l.rule l.bound ((way_of l.track).left k) (get_or l.lefts.items k d);
}
