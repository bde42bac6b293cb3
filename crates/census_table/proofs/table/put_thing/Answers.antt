use Rattle.std.proofs.Common.{◌∙◌, ◌++◌, MatchResult, ap, subst, sym}
use Rattle.std.specs.Option.{option_copied}
use Rattle.watched.specs.Telling.{TellsFront, sheet}
use Rattle.watched.proofs.Telling.{tells_failed}
use Rattle.census_table.specs.Tables.{row_line, thing_row}
use Rattle.census_table.specs.Written.{TellsBut, records_text}
use Rattle.census_table.specs.declared.table.Format.{Format}
use Rattle.census_table.proofs.Held.{but_none}
use Rattle.census_table.proofs.table.put_thing.Goals as goal

pub returns-then-failed : goal.returns-then-failed
returns-then-failed g c =
    let whole = records_text c.args.held.now.items ++ row_line c.args.format (thing_row (option_copied c.args.names) c.args.format c.args.thing.now) in
    let s = sheet c.args.block.now c.args.writer.now in
    but_none whole (records_text c.clear.new.self.items) s s (ap records_text c.clear.ensures.items) (tells_failed whole s (sym c.failed.ensures ∙ c.if-failed.true))

pub returns-in-Csv : goal.returns-in-Csv
returns-in-Csv g c =
    let a = sheet c.args.block.now c.args.writer.now in
    let b = sheet c.put_csv.new.block c.put_csv.new.writer in
    let before = records_text c.args.held.now.items in
    subst (λ (format : Format). MatchResult c.put_csv.result
    (λ _. TellsBut (before ++ row_line format (thing_row (option_copied c.args.names) format c.args.thing.now)) (records_text c.put_csv.new.held.items) a b)
    (λ _. TellsFront (before ++ row_line format (thing_row (option_copied c.args.names) format c.args.thing.now)) a b))
    (sym c.in-Csv.is) c.put_csv.ensures

pub returns-in-Json : goal.returns-in-Json
returns-in-Json g c =
    let a = sheet c.args.block.now c.args.writer.now in
    let b = sheet c.put_json.new.block c.put_json.new.writer in
    let before = records_text c.args.held.now.items in
    subst (λ (format : Format). MatchResult c.put_json.result
    (λ _. TellsBut (before ++ row_line format (thing_row (option_copied c.args.names) format c.args.thing.now)) (records_text c.put_json.new.held.items) a b)
    (λ _. TellsFront (before ++ row_line format (thing_row (option_copied c.args.names) format c.args.thing.now)) a b))
    (sym c.in-Json.is) c.put_json.ensures
