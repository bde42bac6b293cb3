use Rattle.std.proofs.Common.{◌≡◌, ◌++◌, drop}
use Rattle.census_rows.specs.Kinds.{present, texts_of}
use Rattle.census_rows.specs.Lines.{fields_text}
use Rattle.census_rows.proofs.push.push_fields.Given as goal

abbrev pub invariant-loop-field : goal.invariant-loop-field
invariant-loop-field l =
    l.text.items ++ fields_text (texts_of (present (drop l.field-index l.fields))) ≡ l.fn.text.items ++ fields_text (texts_of (present l.fields))
