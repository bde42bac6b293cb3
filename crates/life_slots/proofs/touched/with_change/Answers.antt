use Rattle.life_slots.proofs.Marking.{touched_beside}
use Rattle.life_slots.proofs.touched.with_change.Goals as goal

pub returns-clause-touched : goal.returns-clause-touched
returns-clause-touched c = λ old new is.
    touched_beside c.args.change.now old new c.args.index c.args.side c.with_bits.result c.rows_beside.result is c.with_bits.ensures.set
    c.rows_beside.ensures.first c.rows_beside.ensures.all c.rows_beside.ensures.last
