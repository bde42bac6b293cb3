use Rattle.std.proofs.Common.{◌∙◌, arith}
use Rattle.census_reports.proofs.Merging.{counted_all, counted_excess, counted_next}
use Rattle.census_reports.proofs.merged.count_all.Goals as goal

pub returns-in-Err : goal.returns-in-Err
returns-in-Err c = λ rows are.
    counted_excess c.args.texts.now c.loop-index.index c.loop-index.counted c.loop-index.invariant _ c.as_slice-text.result.now c.loop-index-test.true (c.as_slice-text.ensures ∙ c.index-texts-index.is)
    c.in-Err.excess.report c.in-Err.ensures.counts rows are

pub loop-index-preserved : goal.loop-index-preserved
loop-index-preserved c =
    counted_next c.args.texts.now c.loop-index.index c.loop-index.counted c.loop-index.invariant _ c.as_slice-text.result.now c.loop-index-test.true (c.as_slice-text.ensures ∙ c.index-texts-index.is)
    c.in-Ok.all c.in-Ok.ensures.few c.in-Ok.ensures.counts

pub returns : goal.returns
returns c = λ rows are. counted_all c.args.texts.now c.loop-index.index c.loop-index.counted c.loop-index.invariant (omega (arith, c.loop-index-test.false)) rows are
