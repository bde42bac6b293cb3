use Rattle.std.proofs.lemmas.Result.{err_from_is_err_and}
use Rattle.std.specs.Option.{option_copied}
use Rattle.watched.specs.Telling.{sheet}
use Rattle.watched.proofs.Prefixes.{front_none}
use Rattle.census_table.specs.Json.{json_line}
use Rattle.census_table.specs.Tables.{thing_row}
use Rattle.census_table.specs.declared.table.Format.TheVariants.{Json}
use Rattle.census_table.specs.declared.thing.Thing.TheVariants as things
use Rattle.census_table.proofs.table.put_emitted.Goals as goal

pub returns-in_err-text : goal.returns-in_err-text
returns-in_err-text g c =
    let p = err_from_is_err_and c.from_residual.result c.from_residual.ensures.1 in
    rw p.1 (front_none (json_line (thing_row (option_copied c.args.names) Json (things.Emitted c.args.emitted.now))) (sheet c.args.block.now c.args.writer.now))
