use Rattle.std.proofs.Common.{◌≡◌, ◌≤◌}
use Rattle.life_islands.specs.Seats.{count_to, seat}
use Rattle.life_islands.proofs.colours.count_live.Given as goal

abbrev pub invariant-loop-n : goal.invariant-loop-n
invariant-loop-n l = record {
  value : l.count ≡ count_to l.n (λ m. (seat l.seats m).live);
  few : l.count ≤ l.n;
}
