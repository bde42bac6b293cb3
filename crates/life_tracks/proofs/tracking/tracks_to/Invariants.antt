use Rattle.std.proofs.Common.{◌≡◌, ℕ, ◌<◌, length, get_or}
use Rattle.life_tracks.specs.Frames.Frames.{classes_at, parents_at}
use Rattle.life_tracks.specs.declared.returns.Return.{Return}
use Rattle.life_tracks.specs.Readings.{IsReadOff}
use Rattle.life_tracks.specs.Tracks.{Path}
use Rattle.life_tracks.proofs.tracking.tracks_to.Given as goal

abbrev pub invariant-loop-n : goal.invariant-loop-n
invariant-loop-n l = record {
  count : length l.tracks.items ≡ l.n;
  each : (i : ℕ) (r : Return) (d : Path) → i < l.n → get_or l.found i r ≡ r →
      IsReadOff (classes_at l.film) (parents_at l.film) r.generation r.place (get_or l.tracks.items i d);
}
