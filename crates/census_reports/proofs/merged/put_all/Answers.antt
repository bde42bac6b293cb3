use Rattle.std.proofs.Common.{◌∙◌, arith}
use Rattle.watched.specs.Telling.{sheet}
use Rattle.census_reports.proofs.Merging.{put_last, put_more, put_stopped}
use Rattle.census_reports.proofs.merged.put_all.Goals as goal

pub returns-in_default : goal.returns-in_default
returns-in_default g c = λ rows are fewer fits.
    let l = c.loop-index in
    put_stopped c.args.texts.now l.index l.sums (sheet c.args.block.now c.args.output.now) (sheet l.block l.output) l.invariant _ c.as_slice.result.now c.loop-index-test.true
    (c.as_slice.ensures ∙ c.index-texts-index.is) c.put_rows.result (sheet c.put_rows.new.block c.put_rows.new.writer) c.put_rows.ensures.told c.in_default.is rows are fewer fits

pub loop-index-preserved : goal.loop-index-preserved
loop-index-preserved g c =
    let l = c.loop-index in
    put_more c.args.texts.now l.index l.sums (sheet c.args.block.now c.args.output.now) (sheet l.block l.output) l.invariant _ c.as_slice.result.now c.loop-index-test.true
    (c.as_slice.ensures ∙ c.index-texts-index.is) c.put_rows.result (sheet c.put_rows.new.block c.put_rows.new.writer) c.put_rows.ensures.told c.in-Some.all c.in-Some.ensures.few c.in-Some.is

pub returns : goal.returns
returns g c = λ rows are fewer fits.
    let l = c.loop-index in
    put_last c.args.texts.now l.index l.sums (sheet c.args.block.now c.args.output.now) (sheet l.block l.output) l.invariant
    (sheet c.put_end.new.block c.put_end.new.writer) (omega (arith, c.loop-index-test.false)) c.put_end.ensures rows are fewer fits
