use Rattle.std.proofs.Common.{◌+◌, false, arith, drop, subst, sym}
use Rattle.std.specs.List.{filter_map}
use Rattle.std.proofs.lemmas.Result.{err_from_is_err_and}
use Rattle.watched.specs.Telling.{sheet}
use Rattle.watched.proofs.Prefixes.{TellsUpTo, up_to_end, up_to_front, up_to_more, up_to_start}
use Rattle.census_table.specs.Json.{portion_json}
use Rattle.census_table.specs.Lists.{portion_of}
use Rattle.census_table.specs.Json.{is_later, item_text, items_text}
use Rattle.census_table.proofs.Items.{portions-cut, portions-end}
use Rattle.census_table.proofs.lists.put_portions.Goals as goal

pub loop-index-init : goal.loop-index-init
loop-index-init g c = up_to_start (items_text portion_json false (filter_map portion_of c.args.rows.now)) (sheet c.args.block.now c.args.writer.now)

pub returns-in_err-later : goal.returns-in_err-later
returns-in_err-later g c =
    let p = err_from_is_err_and c.from_residual.result c.from_residual.ensures.1 in
    let rows = c.args.rows.now in
    let l = c.loop-index in
    let row = c.row.result in
    rw p.1
    (up_to_front (items_text portion_json false (filter_map portion_of rows)) (items_text portion_json l.later (filter_map portion_of (drop l.index rows)))
    (item_text portion_json l.later (portion_of row)) (items_text portion_json (is_later l.later (portion_of row)) (filter_map portion_of (drop (l.index + 1) rows)))
    (sheet c.args.block.now c.args.writer.now) (sheet l.block l.writer) (sheet c.put_portion.new.block c.put_portion.new.writer)
    l.invariant (portions-cut rows l.index _ row (omega arith) c.row.ensures l.later) c.in_err-later.ensures.told)

pub loop-index-preserved : goal.loop-index-preserved
loop-index-preserved g c =
    let rows = c.args.rows.now in
    let l = c.loop-index in
    let row = c.row.result in
    let first = sheet c.args.block.now c.args.writer.now in
    let next = sheet c.put_portion.new.block c.put_portion.new.writer in
    subst (λ later. TellsUpTo (items_text portion_json false (filter_map portion_of rows)) (items_text portion_json later (filter_map portion_of (drop (l.index + 1) rows))) first next)
    (sym c.in_ok-later.ensures.later)
    (up_to_more (items_text portion_json false (filter_map portion_of rows)) (items_text portion_json l.later (filter_map portion_of (drop l.index rows)))
    (item_text portion_json l.later (portion_of row)) (items_text portion_json (is_later l.later (portion_of row)) (filter_map portion_of (drop (l.index + 1) rows)))
    first (sheet l.block l.writer) next
    l.invariant (portions-cut rows l.index _ row (omega arith) c.row.ensures l.later) c.in_ok-later.ensures.told)

pub returns : goal.returns
returns g c =
    let rows = c.args.rows.now in
    let l = c.loop-index in
    up_to_end (items_text portion_json false (filter_map portion_of rows)) (items_text portion_json l.later (filter_map portion_of (drop l.index rows)))
    (sheet c.args.block.now c.args.writer.now) (sheet l.block l.writer) l.invariant
    (portions-end rows l.index l.later (omega (arith, c.loop-index-test.false, c.len-index-end.ensures)))
