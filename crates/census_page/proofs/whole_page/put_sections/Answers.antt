use Rattle.std.proofs.Common.{arith}
use Rattle.std.specs.Option.{option_copied}
use Rattle.std.proofs.lemmas.Result.{err_from_is_err_and}
use Rattle.census_page.proofs.Tables.{sections-end, sections-front, sections-more, sections-none}
use Rattle.census_page.proofs.whole_page.put_sections.Goals as goal

pub loop-index-init : goal.loop-index-init
loop-index-init g c = sections-none (option_copied c.args.names) c.args.options.now c.args.sections.now _

pub returns-in_err-put_section : goal.returns-in_err-put_section
returns-in_err-put_section g c =
    let p = err_from_is_err_and c.from_residual.result c.from_residual.ensures.1 in rw p.1
    (sections-front (option_copied c.args.names) c.args.options.now c.args.sections.now c.loop-index.index _ _ c.loop-index.invariant _ c.section-rows.result (omega arith) c.section-rows.ensures c.in_err-put_section.ensures)

pub loop-index-preserved : goal.loop-index-preserved
loop-index-preserved g c =
    sections-more (option_copied c.args.names) c.args.options.now c.args.sections.now c.loop-index.index _ _ c.loop-index.invariant _ c.section-rows.result (omega arith) c.section-rows.ensures c.in_ok-put_section.ensures

pub returns : goal.returns
returns g c = sections-end (option_copied c.args.names) c.args.options.now c.args.sections.now c.loop-index.index _ _ c.loop-index.invariant (omega arith)
