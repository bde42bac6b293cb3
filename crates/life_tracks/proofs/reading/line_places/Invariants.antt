use Rattle.std.proofs.Common.{◌≡◌, ℕ, suc, ◌+◌, ◌≤◌, length, get_or}
use Rattle.life_tracks.specs.Frames.Frames.{parents_at}
use Rattle.life_tracks.specs.Lines.{ancestor}
use Rattle.life_tracks.proofs.reading.line_places.Given as goal

-- the last places are right
abbrev pub invariant-loop-back : goal.invariant-loop-back
invariant-loop-back l = record {
  count : length l.places.items ≡ suc l.end.generation;
  each : (m : ℕ) → l.end.generation ≤ m + l.back → m ≤ l.end.generation →
      get_or l.places.items m 0 ≡ ancestor (parents_at l.film) l.end.generation l.end.place m;
}
