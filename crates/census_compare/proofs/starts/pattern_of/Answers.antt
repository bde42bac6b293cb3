use Rattle.std.proofs.Common.{◌∙◌}
use Rattle.std.proofs.lemmas.Result.{IfOk-weaker}
use Rattle.census_compare.proofs.Started.{no-start}
use Rattle.census_compare.proofs.starts.pattern_of.Goals as goal

pub returns-in-Err : goal.returns-in-Err
returns-in-Err c =
    IfOk-weaker c.no_pattern.result _ _
    (λ pattern none. none.0 ∙ no-start c.args.entry.now c.as_slice.result.now c.in-Err.fault c.if-entry.false c.as_slice.ensures (c.in-Err.ensures.refused none.1))
    c.no_pattern.ensures
