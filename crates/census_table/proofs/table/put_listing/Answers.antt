use Rattle.std.proofs.Common.{◌++◌, ◌+◌, ℕ, List, ap, subst, arith}
use Rattle.std.proofs.lemmas.Result.{err_from_is_err_and}
use Rattle.std.specs.Option.{option_copied}
use Rattle.watched.specs.Telling.{sheet}
use Rattle.watched.proofs.Prefixes.{TellsUpTo, front_none, up_to_start}
use Rattle.census_table.specs.Emitting.{no_last}
use Rattle.census_table.specs.Tables.{listing_of, listing_text, table_from, things_text}
use Rattle.census_table.specs.Things.{things_from}
use Rattle.census_table.specs.Written.{records_text}
use Rattle.census_table.proofs.Held.{up_to_held, up_to_lost, up_to_puts}
use Rattle.census_table.proofs.Walked.{table-end, things-append}
use Rattle.census_table.proofs.table.put_listing.Goals as goal

pub returns-in_err-held : goal.returns-in_err-held
returns-in_err-held g c =
    let p = err_from_is_err_and c.from_residual.result c.from_residual.ensures.1 in
    rw p.1 (front_none (listing_text c.args.format (option_copied c.args.names) (listing_of c.args.table.now)) (sheet c.args.block.now c.args.writer.now))

pub loop-index-init : goal.loop-index-init
loop-index-init g c =
    let s = sheet c.args.block.now c.args.writer.now in
    let things = things_text (option_copied c.args.names) c.args.format (table_from c.args.table.now 0) in
    let held = records_text c.in_ok-held.held.items in
    subst (λ t. TellsUpTo (t ++ things) (held ++ things) s s) c.in_ok-held.ensures (up_to_start (held ++ things) s)

pub returns-in_err-put_lines : goal.returns-in_err-put_lines
returns-in_err-put_lines g c =
    let p = err_from_is_err_and c.from_residual-in_err-put_lines.result c.from_residual-in_err-put_lines.ensures.1 in
    let l = c.loop-index in
    let names = option_copied c.args.names in
    let whole = listing_text c.args.format names (listing_of c.args.table.now) in
    let first = sheet c.args.block.now c.args.writer.now in
    let here = sheet l.block l.writer in
    let held = records_text l.held.items in
    let one = things_from c.lines.result no_last 0 in
    let others = table_from c.args.table.now (l.index + 1) in
    rw p.1
    (up_to_lost whole held (things_text names c.args.format one) (things_text names c.args.format others) first here (sheet c.put_lines.new.block c.put_lines.new.writer)
    (subst (λ t. TellsUpTo whole (held ++ t) first here) (things-append names c.args.format one others (table_from c.args.table.now l.index) c.lines.ensures) l.invariant)
    c.in_err-put_lines.ensures)

pub loop-index-preserved : goal.loop-index-preserved
loop-index-preserved g c =
    let l = c.loop-index in
    let names = option_copied c.args.names in
    let whole = listing_text c.args.format names (listing_of c.args.table.now) in
    let first = sheet c.args.block.now c.args.writer.now in
    let here = sheet l.block l.writer in
    let held = records_text l.held.items in
    let one = things_from c.lines.result no_last 0 in
    let others = table_from c.args.table.now (l.index + 1) in
    up_to_held whole held (things_text names c.args.format one) (things_text names c.args.format others) first here (sheet c.put_lines.new.block c.put_lines.new.writer)
    (subst (λ t. TellsUpTo whole (held ++ t) first here) (things-append names c.args.format one others (table_from c.args.table.now l.index) c.lines.ensures) l.invariant)
    (records_text c.put_lines.new.held.items) c.in_ok-put_lines.ensures

pub returns : goal.returns
returns g c =
    let l = c.loop-index in
    let names = option_copied c.args.names in
    up_to_puts c.flush.result (listing_text c.args.format names (listing_of c.args.table.now)) (records_text l.held.items)
    (things_text names c.args.format (table_from c.args.table.now l.index))
    (sheet c.args.block.now c.args.writer.now) (sheet l.block l.writer) (sheet c.flush.new.block c.flush.new.writer) l.invariant
    (ap (things_text names c.args.format) (table-end c.args.table.now l.index (omega (arith, c.loop-index-test.false, c.len-index-end.ensures)))) c.flush.ensures.tells
