use Rattle.census_rows.proofs.StoreLemmas.Placing.{within-take}
use Rattle.census_rows.proofs.store.section.Section.before.Goals as goal

pub invariant_of-result : goal.invariant_of-result
invariant_of-result c = rw c.split_at.ensures.front (within-take c.self.inside.rows.now c.self.inside.numbers.now c.args.index c.self.invariant)
