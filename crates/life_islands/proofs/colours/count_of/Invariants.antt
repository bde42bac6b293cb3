use Rattle.std.proofs.Common.{◌≡◌, ◌≤◌, ◌==◌, ◌&&◌, get_or}
use Rattle.life_islands.specs.Seats.{count_to, seat}
use Rattle.life_islands.proofs.colours.count_of.Given as goal

abbrev pub invariant-loop-n : goal.invariant-loop-n
invariant-loop-n l = record {
  value : l.count ≡ count_to l.n (λ m. (seat l.seats m).live && (get_or l.colours m 0 == l.colour));
  few : l.count ≤ l.n;
}
