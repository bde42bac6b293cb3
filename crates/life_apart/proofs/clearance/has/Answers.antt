use Rattle.std.proofs.Common.{◌∙◌}
use Rattle.life_apart.proofs.Listed.{listed_by_test}
use Rattle.life_apart.proofs.clearance.has.Goals as goal

pub returns : goal.returns
returns c =
    c.contains.ensures.value
    ∙ listed_by_test c.args.set.now c.args.cell c.as_slice.result.now c.as_slice.ensures.cells
