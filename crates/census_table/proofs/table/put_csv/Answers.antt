use Rattle.std.proofs.Common.{◌∙◌, ◌++◌, MatchResult, ap, map, subst}
use Rattle.std.proofs.lemmas.Result.{err_from_is_err_and}
use Rattle.std.specs.Option.{option_copied}
use Rattle.csv.specs.Writing.{default_writer, row_text}
use Rattle.watched.specs.Telling.{TellsFront, sheet}
use Rattle.watched.proofs.Prefixes.{front_none}
use Rattle.census_table.specs.Contents.{Member, content_bytes, row_of}
use Rattle.census_table.specs.Tables.{row_line, thing_row}
use Rattle.census_table.specs.Written.{TellsBut, records_text}
use Rattle.census_table.specs.declared.table.Format.TheVariants.{Csv}
use Rattle.census_table.proofs.table.put_csv.Goals as goal

pub returns-in_err-row : goal.returns-in_err-row
returns-in_err-row g c =
    let p = err_from_is_err_and c.from_residual.result c.from_residual.ensures.1 in
    rw p.1
    (front_none (records_text c.args.held.now.items ++ row_line (Csv c.args.safe) (thing_row (option_copied c.args.names) (Csv c.args.safe) c.args.thing.now))
    (sheet c.args.block.now c.args.writer.now))

pub returns-in_err-fields : goal.returns-in_err-fields
returns-in_err-fields g c =
    let p = err_from_is_err_and c.from_residual-in_err-fields.result c.from_residual-in_err-fields.ensures.1 in
    rw p.1
    (front_none (records_text c.args.held.now.items ++ row_line (Csv c.args.safe) (thing_row (option_copied c.args.names) (Csv c.args.safe) c.args.thing.now))
    (sheet c.args.block.now c.args.writer.now))

pub returns : goal.returns
returns g c =
    let a = sheet c.args.block.now c.args.writer.now in
    let b = sheet c.put_record.new.block c.put_record.new.writer in
    let before = records_text c.args.held.now.items in
    subst (λ t. MatchResult c.put_record.result (λ _. TellsBut (before ++ t) (records_text c.put_record.new.held.items) a b) (λ _. TellsFront (before ++ t) a b))
    (ap (row_text default_writer)
    (c.in_ok-fields.ensures
    ∙ ap (map (λ (member : Member). content_bytes c.args.safe member.content)) (ap row_of c.as_slice.ensures.value ∙ c.in_ok-row.ensures c.args.safe)))
    c.put_record.ensures
