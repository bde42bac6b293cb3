use Rattle.std.proofs.Common.{ap, ◌∙◌}
use Rattle.life_model.specs.Generation.{from_list}
use Rattle.life_model.proofs.Generations.{from_list-cells}
use Rattle.life_board.proofs.kind.Kind.fill.Goals as goal

pub returns-in-Some-clause-cells : goal.returns-in-Some-clause-cells
returns-in-Some-clause-cells c = c.in-Some.ensures.members ∙ ap from_list c.as_slice.ensures.cells ∙ from_list-cells c.args.list.now
