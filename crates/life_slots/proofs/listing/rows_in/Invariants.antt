use Rattle.std.proofs.Common.{◌≤◌, All, take}
use Rattle.life_slots.specs.Seats.{IsBetween}
use Rattle.life_slots.proofs.listing.rows_in.Given as goal

abbrev pub invariant-loop-seat : goal.invariant-loop-seat
invariant-loop-seat l = record {
  first : l.first ≤ 64;
  end : l.end ≤ 64;
  rows : All (IsBetween l.tiles l.first l.end) (take l.seat-index l.seats);
}
