use Rattle.std.proofs.Common.{◌∙◌, ap, sym}
use Rattle.life_answer.specs.CountedTales.{tale_cmp}
use Rattle.life_answer.proofs.EngineCounts.{counted_there}
use Rattle.life_answer.proofs.engine_list.place_of.Goals as goal

pub returns-in-Equal-clause-there : goal.returns-in-Equal-clause-there
returns-in-Equal-clause-there c _ d =
    let engines = c.args.engines.now in
    let n = c.loop-n.n in
    let line = c.index-engines-n.result in
    counted_there c.args.tale.now engines n line d c.loop-n-test.true c.index-engines-n.is c.loop-n.invariant
    (ap (tale_cmp c.args.tale.now) (ap (λ l. l.tale) c.index-engines-n.is) ∙ sym c.order.ensures ∙ c.in-Equal.is)
