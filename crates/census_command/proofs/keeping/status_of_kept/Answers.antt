use Rattle.std.proofs.Common.{◌∙◌, sym}
use Rattle.census_command.proofs.Kept.{status_lost, status_refused, status_whole}
use Rattle.census_command.proofs.keeping.status_of_kept.Goals as goal

pub returns-then-not-is_empty : goal.returns-then-not-is_empty
returns-then-not-is_empty c = status_refused c.args.lost.now c.args.refused.now (sym c.is_empty.ensures ∙ c.if-not-is_empty.true)

pub returns-then-is_empty : goal.returns-then-is_empty
returns-then-is_empty c = status_whole c.args.lost.now c.args.refused.now (sym c.is_empty.ensures ∙ c.if-not-is_empty.false) (sym c.is_empty-2.ensures ∙ c.if-is_empty.true)

pub returns : goal.returns
returns c = status_lost c.args.lost.now c.args.refused.now (sym c.is_empty.ensures ∙ c.if-not-is_empty.false) (sym c.is_empty-2.ensures ∙ c.if-is_empty.false)
