use Rattle.std.proofs.Common.{◌++◌, sym, append_assoc}
use Rattle.census_rows.specs.Kinds.{said, texts_of}
use Rattle.census_rows.specs.Lines.{fields_text}
use Rattle.census_rows.proofs.FieldTexts.{first-field, ends-behind}
use Rattle.census_rows.proofs.EachKind.{word-plain}
use Rattle.census_rows.proofs.read.Fields.outcome.Goals as goal

pub returns-clause-all : goal.returns-clause-all
returns-clause-all c = λ outcome after whole is ends e.
    let k = (said outcome).word in
    let fs = texts_of (said outcome).fields in
    let ended = ends-behind fs after ends in
    let taken = c.field-found.ensures.all k (fields_text fs ++ after) whole (word-plain outcome) ended (first-field k fs _ after e) in
    c.outcome_of.ensures.all outcome after taken.0 is ends (rw taken.1 (word-plain outcome)) (rw taken.2 ended)
    (rw (taken.1, taken.2) (sym (append_assoc k (fields_text fs) after)))
