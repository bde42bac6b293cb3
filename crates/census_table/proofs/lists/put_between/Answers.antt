use Rattle.std.proofs.Common.{◌++◌, false, refl}
use Rattle.std.specs.List.{filter_map}
use Rattle.std.proofs.lemmas.Result.{err_from_is_err_and}
use Rattle.watched.specs.Telling.{sheet}
use Rattle.watched.proofs.Prefixes.{front_around, told_around}
use Rattle.census_table.specs.Json.{items_text, portion_json}
use Rattle.census_table.specs.Lists.{portion_of}
use Rattle.census_table.proofs.lists.put_between.Goals as goal

pub returns-in_err-put_portions : goal.returns-in_err-put_portions
returns-in_err-put_portions g c =
    let p = err_from_is_err_and c.from_residual.result c.from_residual.ensures.1 in
    let items = items_text portion_json false (filter_map portion_of c.args.rows.now) in
    rw p.1
    (front_around (c.args.head.now ++ (items ++ c.args.end.now)) c.args.head.now items c.args.end.now refl (sheet c.args.block.now c.args.writer.now) (sheet c.put.new.block c.put.new.writer)
    (sheet c.put_portions.new.block c.put_portions.new.writer) c.put.ensures c.in_err-put_portions.ensures)

pub returns : goal.returns
returns g c =
    let items = items_text portion_json false (filter_map portion_of c.args.rows.now) in
    told_around (c.args.head.now ++ (items ++ c.args.end.now)) c.args.head.now items c.args.end.now refl (sheet c.args.block.now c.args.writer.now) (sheet c.put.new.block c.put.new.writer)
    (sheet c.put_portions.new.block c.put_portions.new.writer) c.put.ensures (sheet c.put-2.new.block c.put-2.new.writer) c.in_ok-put_portions.ensures c.put-2.ensures
