use Rattle.std.proofs.Common.{drop}
use Rattle.watched.specs.Telling.{sheet}
use Rattle.watched.proofs.Prefixes.{TellsUpTo}
use Rattle.census_rows.specs.Lines.{text_of}
use Rattle.census_merge.proofs.written.put_lines.Given as goal

abbrev pub invariant-loop-row : goal.invariant-loop-row
invariant-loop-row g l =
    TellsUpTo (text_of l.rows) (text_of (drop l.row-index l.rows))
    (sheet l.fn.block l.fn.writer) (sheet l.block l.writer)
