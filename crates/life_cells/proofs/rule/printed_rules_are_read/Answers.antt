use Rattle.life_cells.proofs.PrintLemmas.{printed_rule}
use Rattle.life_cells.proofs.rule.printed_rules_are_read.Goals as goal

pub returns : goal.returns
returns c = printed_rule
