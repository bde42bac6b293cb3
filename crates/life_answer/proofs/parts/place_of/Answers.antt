use Rattle.std.proofs.Common.{◌∙◌, ap, sym}
use Rattle.life_cells.specs.TextOrder.{shorter_cmp}
use Rattle.life_answer.proofs.Counted.{counted_there}
use Rattle.life_answer.proofs.parts.place_of.Goals as goal

pub returns-in-Equal-clause-there : goal.returns-in-Equal-clause-there
returns-in-Equal-clause-there c _ d =
    let parts = c.args.parts.now in
    let n = c.loop-n.n in
    let part = c.index-parts-n.result in
    counted_there c.args.code.now parts n part d c.loop-n-test.true c.index-parts-n.is c.loop-n.invariant
    (ap (shorter_cmp c.args.code.now) (ap (λ p. p.code) c.index-parts-n.is ∙ sym c.as_slice.ensures)
    ∙ sym c.shorter.ensures ∙ c.in-Equal.is)
