use Rattle.std.proofs.Common.{Some, ap}
use Rattle.life_answer.specs.declared.question.Question.TheVariants.{Objects}
use Rattle.life_answer.specs.declared.finding.Finding.{Finding}
use Rattle.census_identify.proofs.BlocksLemmas.Meant.{found, not_refused}
use Rattle.census_identify.proofs.blocks.known.outcome_of.Goals as goal

pub returns-in-Found : goal.returns-in-Found
returns-in-Found g c =
    ap (λ (f : Finding). f.outcome) (found (Objects c.args.inquiry.bound (Some c.args.inquiry.cells) c.args.inquiry.near c.args.inquiry.horizon) c.args.text.now c.args.pattern.now _ _ _ c.in_ok-finding.ensures.answer c.requires.meant c.in-Found.is)

pub returns-in-Refused : goal.returns-in-Refused
returns-in-Refused g c =
    absurd (not_refused (Objects c.args.inquiry.bound (Some c.args.inquiry.cells) c.args.inquiry.near c.args.inquiry.horizon) c.args.text.now c.args.pattern.now _ _ c.in_ok-finding.ensures.answer c.requires.meant c.in-Refused.is)
