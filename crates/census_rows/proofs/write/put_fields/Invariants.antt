use Rattle.std.proofs.Common.{drop}
use Rattle.watched.specs.Telling.{Sheet, TellsAfter, sheet}
use Rattle.census_rows.specs.Kinds.{present, texts_of}
use Rattle.census_rows.specs.Lines.{fields_text}
use Rattle.census_rows.proofs.write.put_fields.Given as goal

-- who tells the others has told all
abbrev pub invariant-loop-field : goal.invariant-loop-field
invariant-loop-field g l =
    (last : Sheet) → TellsAfter (fields_text (texts_of (present (drop l.field-index l.fields)))) (sheet l.block l.writer) last
    → TellsAfter (fields_text (texts_of (present l.fields))) (sheet l.fn.block l.fn.writer) last
