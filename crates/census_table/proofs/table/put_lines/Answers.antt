use Rattle.std.proofs.Common.{◌++◌, ◌+◌, ◌∙◌, ℕ, List, [], Some, ap, subst, sym, arith}
use Rattle.std.specs.List.{cons_option}
use Rattle.std.proofs.lemmas.Result.{err_from_is_err_and}
use Rattle.std.specs.Option.{option_copied}
use Rattle.watched.specs.Telling.{sheet}
use Rattle.watched.proofs.Prefixes.{TellsUpTo, up_to_start}
use Rattle.census_table.specs.Emitting.{no_last}
use Rattle.census_table.specs.Tables.{things_text}
use Rattle.census_table.specs.Things.{things_from}
use Rattle.census_table.specs.Written.{records_text}
use Rattle.census_table.specs.declared.thing.Thing.{Thing}
use Rattle.census_table.proofs.Held.{up_to_but, up_to_held, up_to_lost}
use Rattle.census_table.proofs.Walked.{lines-end, thing-first}
use Rattle.census_table.proofs.table.put_lines.Goals as goal

pub loop-index-init : goal.loop-index-init
loop-index-init g c =
    up_to_start (records_text c.args.held.now.items ++ things_text (option_copied c.args.names) c.args.format (things_from c.args.lines.now no_last 0)) (sheet c.args.block.now c.args.writer.now)

pub returns-in_err-put_some : goal.returns-in_err-put_some
returns-in_err-put_some g c =
    let p = err_from_is_err_and c.from_residual.result c.from_residual.ensures.1 in
    let l = c.loop-index in
    let names = option_copied c.args.names in
    let text : List Thing → List ℕ = things_text names c.args.format in
    let lines = c.args.lines.now in
    let held = records_text l.held.items in
    let whole = records_text c.args.held.now.items ++ text (things_from lines no_last 0) in
    let first = sheet c.args.block.now c.args.writer.now in
    let here = sheet l.block l.writer in
    let one = c.thing-some.result in
    let others = things_from lines c.thing-some.new.last (l.index + 1) in
    rw p.1
    (up_to_lost whole held (text (cons_option one [])) (text others) first here (sheet c.put_some.new.block c.put_some.new.writer)
    (subst (λ t. TellsUpTo whole (held ++ t) first here) (thing-first names c.args.format one others (things_from lines l.last l.index) c.thing-some.ensures) l.invariant)
    c.in_err-put_some.ensures)

pub loop-index-preserved : goal.loop-index-preserved
loop-index-preserved g c =
    let l = c.loop-index in
    let names = option_copied c.args.names in
    let text : List Thing → List ℕ = things_text names c.args.format in
    let lines = c.args.lines.now in
    let held = records_text l.held.items in
    let whole = records_text c.args.held.now.items ++ text (things_from lines no_last 0) in
    let first = sheet c.args.block.now c.args.writer.now in
    let here = sheet l.block l.writer in
    let one = c.thing-some.result in
    let others = things_from lines c.thing-some.new.last (l.index + 1) in
    up_to_held whole held (text (cons_option one [])) (text others) first here (sheet c.put_some.new.block c.put_some.new.writer)
    (subst (λ t. TellsUpTo whole (held ++ t) first here) (thing-first names c.args.format one others (things_from lines l.last l.index) c.thing-some.ensures) l.invariant)
    (records_text c.put_some.new.held.items) c.in_ok-put_some.ensures

pub returns : goal.returns
returns g c =
    let l = c.loop-index in
    let names = option_copied c.args.names in
    up_to_but (records_text c.args.held.now.items ++ things_text names c.args.format (things_from c.args.lines.now no_last 0)) (records_text l.held.items)
    (things_text names c.args.format (things_from c.args.lines.now l.last l.index)) (sheet c.args.block.now c.args.writer.now) (sheet l.block l.writer) l.invariant
    (ap (things_text names c.args.format) (lines-end c.args.lines.now l.last l.index (omega (arith, c.loop-index-test.false, c.len-index-end.ensures))))
