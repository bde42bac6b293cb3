use Rattle.std.proofs.Common.{◌∙◌}
use Rattle.census_crew.proofs.Memory.{err_then, found_entry}
use Rattle.census_crew.proofs.answering.work_observed.Goals as goal

pub returns-clause-memory : goal.returns-clause-memory
returns-clause-memory g c =
    err_then c.of.result (λ apart. found_entry c.args.question c.args.entry.now (λ number is. apart number (c.in_ok-answer.ensures.found ∙ is))) c.of.ensures.memory
