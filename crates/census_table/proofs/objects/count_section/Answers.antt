use Rattle.std.proofs.Common.{◌+◌, ap, arith, length}
use Rattle.census_table.proofs.Placed.{row-counted, section-counted, section-start, told-here}
use Rattle.census_table.proofs.objects.count_section.Goals as goal

pub loop-row-init : goal.loop-row-init
loop-row-init c = (omega (arith, ap length (section-start (c.args.collection + 1) c.section-rows.result)), omega arith)

pub loop-row-preserved : goal.loop-row-preserved
loop-row-preserved c =
    let rows = c.section-rows.result in
    let l = c.loop-row in
    let more = row-counted (c.args.collection + 1) rows l.line l.row c.line_at-line.result _ (omega arith) c.line_at-line.ensures
    (told-here c.args.sections.now c.args.collection c.line_at-line.result l.row _ rows c.requires.within c.section-rows.ensures) in
    (omega (arith, more, l.invariant.0, c.count_at-more.ensures.count), omega (arith, l.invariant.1, c.count_at-more.ensures.few))

pub returns : goal.returns
returns c =
    let l = c.loop-row in
    section-counted (c.args.collection + 1) c.args.sections.now c.args.collection l.line l.row l.count _ c.section-rows.result
    c.requires.within c.section-rows.ensures (omega arith) l.invariant.0
