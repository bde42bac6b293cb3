use Rattle.std.proofs.Common.{◌∙◌, sym}
use Rattle.life_cells.specs.Rules.{is_count}
use Rattle.life_cells.proofs.RuleLemmas.{front_passes}
use Rattle.life_cells.proofs.rule.with_second.Goals as goal

pub returns-clause-digits : goal.returns-clause-digits
returns-clause-digits c = (rw c.count_digits.ensures.value (front_passes is_count c.args.text.now), sym c.is_digits.ensures ∙ c.if-not-is_digits.false)
