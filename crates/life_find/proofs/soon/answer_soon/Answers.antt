use Rattle.std.proofs.Common.{◌≡◌, ◌≤◌, ◌∙◌, sym, ap, arith}
use Rattle.life_answer.specs.declared.question.Question.TheVariants.{Settles}
use Rattle.life_answer.specs.Questions.{answer_to_question}
use Rattle.life_find.specs.Soon.{is_open}
use Rattle.life_find.proofs.LaterAnswers.{answered_later}
use Rattle.life_find.proofs.soon.answer_soon.Goals as goal
use Rattle.life_find.proofs.soon.answer_soon.Goals.{else-reach-bound-via-then-reach-bound+else-is_open, else-reach-bound-via-else-reach-bound}

pub returns-clause-known : goal.returns-clause-known
returns-clause-known c =
    let limit = c.args.limit in
    let text = c.args.text.now in
    let reach = c.min-reach.result in
    let least = c.min-reach.ensures in
    let found = c.in_ok-found.ensures.answer in
    elim c.else-reach-bound.branch [
      | else-reach-bound-via-then-reach-bound+else-is_open w ↦
          let within : reach ≤ c.args.bound = omega arith in
          found ∙ sym (answered_later limit reach c.args.bound text within (ap is_open (sym found) ∙ sym w.if-is_open.ensures))
      | else-reach-bound-via-else-reach-bound w ↦
          let past = w.if-reach-bound.false in
          let same : reach ≡ c.args.bound = omega arith in
          found ∙ ap (λ bound. answer_to_question (Settles bound limit) text) same
    ]
