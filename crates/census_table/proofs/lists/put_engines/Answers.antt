use Rattle.std.proofs.Common.{◌+◌, false, ap, arith, drop, subst, sym}
use Rattle.std.proofs.lemmas.Result.{err_from_is_err_and}
use Rattle.std.specs.List.{take_while}
use Rattle.watched.specs.Telling.{sheet}
use Rattle.census_readback.specs.Following.{is_emits}
use Rattle.watched.proofs.Prefixes.{TellsUpTo, up_to_end, up_to_front, up_to_more, up_to_start}
use Rattle.census_table.specs.Json.{engine_json}
use Rattle.census_table.specs.Lists.{all_engines, engines_of}
use Rattle.census_table.specs.Json.{is_later, item_text, items_text}
use Rattle.census_table.proofs.Items.{engines-cut, engines-end}
use Rattle.census_table.proofs.lists.put_engines.Goals as goal

pub loop-index-init : goal.loop-index-init
loop-index-init g c = up_to_start (items_text engine_json false (all_engines c.args.rows.now)) (sheet c.args.block.now c.args.writer.now)

pub returns-in_err-later : goal.returns-in_err-later
returns-in_err-later g c =
    let p = err_from_is_err_and c.from_residual.result c.from_residual.ensures.1 in
    let rows = c.args.rows.now in
    let l = c.loop-index in
    let row = c.row.result in
    rw p.1
    (up_to_front (items_text engine_json false (all_engines rows)) (items_text engine_json l.later (all_engines (drop l.index rows)))
    (item_text engine_json l.later (engines_of row (take_while is_emits c.from-behind.result))) (items_text engine_json (is_later l.later (engines_of row (take_while is_emits c.from-behind.result))) (all_engines (drop (l.index + 1) rows)))
    (sheet c.args.block.now c.args.writer.now) (sheet l.block l.writer) (sheet c.put_engine.new.block c.put_engine.new.writer)
    l.invariant (engines-cut rows l.index _ row (omega arith) c.row.ensures l.later (take_while is_emits c.from-behind.result) (ap (take_while is_emits) c.from-behind.ensures)) c.in_err-later.ensures.told)

pub loop-index-preserved : goal.loop-index-preserved
loop-index-preserved g c =
    let rows = c.args.rows.now in
    let l = c.loop-index in
    let row = c.row.result in
    let first = sheet c.args.block.now c.args.writer.now in
    let next = sheet c.put_engine.new.block c.put_engine.new.writer in
    subst (λ later. TellsUpTo (items_text engine_json false (all_engines rows)) (items_text engine_json later (all_engines (drop (l.index + 1) rows))) first next)
    (sym c.in_ok-later.ensures.later)
    (up_to_more (items_text engine_json false (all_engines rows)) (items_text engine_json l.later (all_engines (drop l.index rows)))
    (item_text engine_json l.later (engines_of row (take_while is_emits c.from-behind.result))) (items_text engine_json (is_later l.later (engines_of row (take_while is_emits c.from-behind.result))) (all_engines (drop (l.index + 1) rows)))
    first (sheet l.block l.writer) next
    l.invariant (engines-cut rows l.index _ row (omega arith) c.row.ensures l.later (take_while is_emits c.from-behind.result) (ap (take_while is_emits) c.from-behind.ensures)) c.in_ok-later.ensures.told)

pub returns : goal.returns
returns g c =
    let rows = c.args.rows.now in
    let l = c.loop-index in
    up_to_end (items_text engine_json false (all_engines rows)) (items_text engine_json l.later (all_engines (drop l.index rows)))
    (sheet c.args.block.now c.args.writer.now) (sheet l.block l.writer) l.invariant
    (engines-end rows l.index l.later (omega (arith, c.loop-index-test.false, c.len-index-end.ensures)))
