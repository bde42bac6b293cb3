use Rattle.watched.specs.Telling.{sheet}
use Rattle.census_merge.specs.Merged.{merged_rows}
use Rattle.census_rows.specs.Lines.{text_of}
use Rattle.census_reports.proofs.Told.{told_whole}
use Rattle.census_reports.proofs.merged.write_report.Goals as goal

pub returns : goal.returns
returns g c = λ rows are fewer fits.
    told_whole c.send.result (text_of (merged_rows rows)) (sheet c.new-block.result c.args.output.now)
    (sheet c.put_all.new.block c.put_all.new.output) (sheet c.send.new.block c.send.new.writer)
    c.new-block.ensures (c.put_all.ensures rows are fewer fits) c.send.ensures.tells c.send.ensures.empty c.send.ensures.failed
