use Rattle.census_rows.proofs.StoreLemmas.Placing.{within-drop}
use Rattle.census_rows.proofs.store.section.Section.from.Goals as goal

pub invariant_of-result : goal.invariant_of-result
invariant_of-result c = rw c.split_at.ensures.back (within-drop c.self.inside.rows.now c.self.inside.numbers.now c.args.index c.self.invariant)
