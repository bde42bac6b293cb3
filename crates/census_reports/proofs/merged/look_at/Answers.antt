use Rattle.std.proofs.Common.{◌∙◌}
use Rattle.census_reports.proofs.Joined.{fault_found, none_found}
use Rattle.census_reports.proofs.merged.look_at.Goals as goal

pub returns-in-Some : goal.returns-in-Some
returns-in-Some c =
    fault_found c.args.texts.now c.loop-index.index _ c.loop-index-test.true c.loop-index.invariant.0 c.loop-index.invariant.1 c.as_slice.result.now (c.as_slice.ensures ∙ c.index-texts-index.is)
    c.in_ok-line.field-0 c.in_ok-line.ensures.sound c.in-Some.line c.in-Some.is c.in_ok-line.ensures.all

pub loop-index-preserved : goal.loop-index-preserved
loop-index-preserved c =
    none_found c.args.texts.now c.loop-index.index _ c.loop-index-test.true c.loop-index.invariant.0 c.loop-index.invariant.1 c.as_slice.result.now (c.as_slice.ensures ∙ c.index-texts-index.is)
    c.in_ok-line.field-0 c.in_ok-line.ensures.sound c.in_default.is
