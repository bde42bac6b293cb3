use Rattle.std.proofs.Common.{◌++◌, ◌∙◌, append-nil, ap, sym, arith}
use Rattle.std.proofs.lemmas.List.{drop_all}
use Rattle.census_table.specs.Entries.{entries_under}
use Rattle.census_table.proofs.Walked.{entry-more}
use Rattle.census_table.proofs.entry.entries_under.Goals as goal

pub loop-index-preserved : goal.loop-index-preserved
loop-index-preserved c =
    let l = c.loop-index in
    entry-more c.args.number c.args.heading.now c.args.rows.now l.index c.row-row.result c.from-behind.result l.entries.items c.push_entry.new.entries.items
    (entries_under c.args.number c.args.heading.now c.args.rows.now) (omega arith) c.row-row.ensures c.from-behind.ensures l.invariant c.in_ok-push_entry.ensures

pub returns : goal.returns
returns c =
    let l = c.loop-index in
    sym (append-nil l.entries.items)
    ∙ ap (λ rows. l.entries.items ++ entries_under c.args.number c.args.heading.now rows)
    (sym (drop_all l.index c.args.rows.now (omega (arith, c.loop-index-test.false, c.len-index-end.ensures)))) ∙ l.invariant
