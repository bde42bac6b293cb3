use Rattle.std.proofs.Common.{refl}
use Rattle.watched.specs.Telling.{sheet}
use Rattle.watched.proofs.Prefixes.{each_end, each_more, up_to_start}
use Rattle.census_rows.specs.Lines.{line_of, text_of}
use Rattle.census_merge.proofs.written.put_lines.Goals as goal

pub loop-row-init : goal.loop-row-init
loop-row-init g c = up_to_start (text_of c.args.rows.now) (sheet c.args.block.now c.args.writer.now)

pub loop-row-preserved : goal.loop-row-preserved
loop-row-preserved g c =
    let l = c.loop-row in
    each_more line_of text_of (λ x xs. refl) c.args.rows.now l.row-index (sheet c.args.block.now c.args.writer.now)
    (sheet l.block l.writer) l.invariant _
    (sheet c.put_line.new.block c.put_line.new.writer) c.loop-row-test.true c.put_line.ensures

pub returns : goal.returns
returns g c =
    let l = c.loop-row in
    each_end line_of text_of (λ x xs. refl) c.args.rows.now l.row-index (sheet c.args.block.now c.args.writer.now)
    (sheet l.block l.writer) l.invariant c.loop-row-test.false refl
