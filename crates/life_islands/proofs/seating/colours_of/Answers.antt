use Rattle.std.proofs.Common.{length-set, refl, ◌∙◌, arith}
use Rattle.life_islands.specs.Seats.{set_at}
use Rattle.life_islands.proofs.Placing.{one_listed_more}
use Rattle.life_islands.proofs.seating.colours_of.Goals as goal

pub loop-n-preserved : goal.loop-n-preserved
loop-n-preserved c =
    let at = c.loop-n.invariant in
    let seats = c.args.seats.now in
    let n = c.loop-n.n in
    record {
      long = length-set c.loop-n.sets n (set_at seats n) ∙ at.long;
      each = one_listed_more c.loop-n.sets (set_at seats) n (set_at seats n) at.long (omega arith) refl at.each;
    }
