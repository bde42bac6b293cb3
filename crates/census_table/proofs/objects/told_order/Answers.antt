use Rattle.std.proofs.Common.{◌∙◌}
use Rattle.census_table.proofs.Keyed.{same-order}
use Rattle.census_table.proofs.objects.told_order.Goals as goal

pub returns : goal.returns
returns c = c.key_order.ensures ∙ same-order c.args.nothing.now c.args.sections.now c.args.one.now c.args.other.now
