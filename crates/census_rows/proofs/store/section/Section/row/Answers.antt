use Rattle.std.proofs.Common.{arith}
use Rattle.census_rows.proofs.StoreLemmas.Placing.{within-at, count-is, row-numbered}
use Rattle.census_rows.proofs.store.section.Section.row.Goals as goal

pub row-requires : goal.row-requires
row-requires c =
    let size = count-is c.self.inside.rows.now c.self.inside.numbers.now c.args.self.now c.self.view_is in
    within-at c.self.inside.rows.now c.self.inside.numbers.now c.args.index c.self.invariant (omega (arith, size, c.requires))

pub returns : goal.returns
returns c = row-numbered c.self.inside.rows.now c.self.inside.numbers.now c.args.self.now c.args.index c.row.result c.self.invariant c.self.view_is c.requires c.row.ensures
