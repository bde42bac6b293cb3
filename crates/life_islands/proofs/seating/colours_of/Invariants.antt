use Rattle.std.proofs.Common.{◌≡◌, ℕ, ◌<◌, length}
use Rattle.life_islands.specs.Seats.{listed, set_at}
use Rattle.life_islands.proofs.seating.colours_of.Given as goal

abbrev pub invariant-loop-n : goal.invariant-loop-n
invariant-loop-n l = record {
  long : length l.sets ≡ 8;
  each : (k : ℕ) → k < l.n → listed l.sets k ≡ set_at l.seats k;
}
