use Rattle.std.proofs.Common.{◌≡◌, ◌∙◌}
use Rattle.census_format.specs.Lines.{answer_to_entry}
use Rattle.census_crew.proofs.Memory.{found_entry, on_err, some_is}
use Rattle.census_crew.proofs.answering.work_soon.Goals as goal

pub returns-in_err-of-in-Some-clause-memory : goal.returns-in_err-of-in-Some-clause-memory
returns-in_err-of-in-Some-clause-memory c =
    let known = some_is (λ found. found ≡ answer_to_entry c.args.question c.args.entry.now) _ _ c.in-Some.is c.in_ok-answer.ensures.known in
    on_err c.from_residual-in_err-of-in-Some.result (found_entry c.args.question c.args.entry.now (λ number is. c.in_err-of-in-Some.ensures.memory number (known ∙ is))).0
