use Rattle.std.proofs.Common.{◌∙◌}
use Rattle.census_reports.proofs.Mended.{broken-read, mended-read}
use Rattle.census_reports.proofs.looking.mend_each.Goals as goal

pub returns-in-Err : goal.returns-in-Err
returns-in-Err c =
    broken-read c.args.texts.now c.loop-index.index _ c.loop-index-test.true c.loop-index.looked.texts.items c.loop-index.looked.cuts.items c.loop-index.invariant c.as_slice.result.now
    (c.as_slice.ensures ∙ c.index-texts-index.is) c.in_ok-mended.field-0 c.in_ok-mended.ensures.sound c.in-Err.line c.in-Err.is

pub loop-index-preserved : goal.loop-index-preserved
loop-index-preserved c =
    mended-read c.args.texts.now c.loop-index.index _ c.loop-index-test.true c.loop-index.looked.texts.items c.loop-index.looked.cuts.items c.loop-index.invariant c.as_slice.result.now
    (c.as_slice.ensures ∙ c.index-texts-index.is) c.in_ok-mended.field-0 c.in_ok-mended.ensures.sound c.in-Ok.mended c.add.new.self.texts.items c.add.new.self.cuts.items c.in-Ok.is
    c.in_ok-add-in-Ok.ensures.texts c.in_ok-add-in-Ok.ensures.cuts
