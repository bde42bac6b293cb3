use Rattle.std.proofs.Common.{Result, Ok, Err, OnErr, sym, ◌∙◌}
use Rattle.life_answer.specs.declared.finding.Answer.TheVariants.{Found}
use Rattle.life_answer.specs.declared.question.Question.TheVariants.{Objects}
use Rattle.life_answer.specs.Questions.{finding_to}
use Rattle.life_answer.proofs.Texts.{answer-found, header_lawful, memory_of, refused-answer}
use Rattle.life_census.proofs.answering.answer_on.Goals as goal

-- what holds anyway holds after an error
on_err : {A E P : Type 0} (r : Result A E) → P → OnErr r P
on_err (Ok value) h = tt
on_err (Err error) h = h

pub returns-in_ok-finding-in-Ok-clause-answer : goal.returns-in_ok-finding-in-Ok-clause-answer
returns-in_ok-finding-in-Ok-clause-answer g c =
    let found = c.in_ok-finding-in-Ok.ensures ∙ (λ i. finding_to (Objects c.args.bound c.args.limit c.args.near c.args.horizon) (c.rule-rule.ensures i) (c.cells.ensures.cells i)) in
    (λ i. Found (c.rule-rule.ensures i) (found i))
    ∙ sym (answer-found (Objects c.args.bound c.args.limit c.args.near c.args.horizon) c.args.text.now c.in-Ok.pattern c.in-Ok.ensures.found)

pub returns-in-Err-clause-answer : goal.returns-in-Err-clause-answer
returns-in-Err-clause-answer g c =
    refused-answer c.refused.result (Objects c.args.bound c.args.limit c.args.near c.args.horizon) c.args.text.now c.in-Err.fault c.refused.ensures.answer c.refused.ensures.fault c.in-Err.ensures.refused

pub returns-in-Err-clause-memory : goal.returns-in-Err-clause-memory
returns-in-Err-clause-memory g c = memory_of c.refused.result c.args.text.now c.in-Err.fault c.refused.ensures.memory c.in-Err.ensures.memory

pub returns-in_err-finding-in-Ok-clause-memory : goal.returns-in_err-finding-in-Ok-clause-memory
returns-in_err-finding-in-Ok-clause-memory g c = on_err c.from_residual.result (header_lawful c.args.text.now c.in-Ok.ensures.lawful)
