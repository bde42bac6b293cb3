use Rattle.std.proofs.Common.{◌++◌, refl}
use Rattle.std.proofs.lemmas.Result.{err_from_is_err_and}
use Rattle.std.specs.Option.{option_copied}
use Rattle.watched.specs.Telling.{sheet}
use Rattle.watched.proofs.Prefixes.{front_first}
use Rattle.census_table.specs.Json.{json_line}
use Rattle.census_table.specs.Tables.{thing_row}
use Rattle.census_table.specs.Written.{records_text}
use Rattle.census_table.specs.declared.table.Format.TheVariants.{Json}
use Rattle.census_table.proofs.Held.{flushed-before}
use Rattle.census_table.proofs.table.put_json.Goals as goal

pub returns-in_err-flush : goal.returns-in_err-flush
returns-in_err-flush g c =
    let p = err_from_is_err_and c.from_residual.result c.from_residual.ensures.1 in
    let line = json_line (thing_row (option_copied c.args.names) Json c.args.thing.now) in
    let before = records_text c.args.held.now.items in
    rw p.1 (front_first (before ++ line) before line (sheet c.args.block.now c.args.writer.now) (sheet c.flush.new.block c.flush.new.writer) refl c.in_err-flush.ensures.tells)

pub returns : goal.returns
returns g c =
    flushed-before c.put_line.result (records_text c.args.held.now.items) (json_line (thing_row (option_copied c.args.names) Json c.args.thing.now)) c.flush.new.held.items
    (sheet c.args.block.now c.args.writer.now) (sheet c.flush.new.block c.flush.new.writer) (sheet c.put_line.new.block c.put_line.new.writer)
    c.in_ok-flush.ensures.tells c.in_ok-flush.ensures.empty c.put_line.ensures
