use Rattle.std.proofs.Common.{length-set, ◌∙◌, arith}
use Rattle.life_islands.specs.Labels.{sets_of}
use Rattle.life_islands.proofs.Placing.{one_seat_more}
use Rattle.life_islands.proofs.seating.seats_around.Goals as goal

pub loop-number-preserved : goal.loop-number-preserved
loop-number-preserved c =
    let a = c.args in
    let at = c.loop-number.invariant in
    record {
      long = length-set c.loop-number.seats c.loop-number.number c.seat_at-seat.result ∙ at.long;
      each = one_seat_more a.list.now (sets_of a.list.now a.isles.now) (sets_of a.list.now a.sets.now) a.place c.loop-number.seats
          c.loop-number.number c.seat_at-seat.result at.long (omega arith) at.each c.seat_at-seat.ensures;
    }
