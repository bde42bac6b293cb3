use Rattle.std.proofs.Common.{◌≡◌, ℕ, ◌<◌, length}
use Rattle.life_islands.specs.Labels.{sets_of}
use Rattle.life_islands.specs.Seats.{IsSeat, seat}
use Rattle.life_islands.proofs.seating.seats_around.Given as goal

abbrev pub invariant-loop-number : goal.invariant-loop-number
invariant-loop-number l = record {
  long : length l.seats ≡ 8;
  each : (k : ℕ) → k < l.number → IsSeat l.list (sets_of l.list l.isles) (sets_of l.list l.sets) l.place k (seat l.seats k);
}
