use Rattle.std.proofs.Common.{Some, ap, sym, ◌∙◌}
use Rattle.watched.specs.Telling.{sheet}
use Rattle.census_rows.specs.Lines.{text_of}
use Rattle.census_merge.proofs.Spelled.{text-told}
use Rattle.census_merge.proofs.written.text_of.Goals as goal

pub returns-in-Ok : goal.returns-in-Ok
returns-in-Ok c =
    text-told (text_of c.args.rows.now) c.into_inner.result.items (sheet c.new-block.result c.new-writer.result)
    (sheet c.put_lines.new.block c.put_lines.new.writer) (sheet c.send.new.block c.send.new.writer)
    (c.new-writer.ensures.written ∙ ap (λ xs. Some xs) c.new.ensures.items) c.new-block.ensures c.put_lines.ensures c.send.ensures.tells c.send.ensures.empty
    c.in-Ok.ensures.failed (sym c.into_inner.ensures.written)
