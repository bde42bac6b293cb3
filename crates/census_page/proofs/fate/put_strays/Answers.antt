use Rattle.std.proofs.Common.{arith}
use Rattle.std.specs.Option.{option_copied}
use Rattle.std.proofs.lemmas.Result.{err_from_is_err_and}
use Rattle.census_page.proofs.Steps.{up-end, up-front, up-more, up-none}
use Rattle.census_page.proofs.fate.put_strays.Goals as goal
use Rattle.census_page.specs.Pages.{stray_in}

pub loop-index-init : goal.loop-index-init
loop-index-init g c = up-none (option_copied c.args.view.now.names) (stray_in c.args.view.now.patterns) c.args.rows.now _

pub returns-in_err-put_stray : goal.returns-in_err-put_stray
returns-in_err-put_stray g c =
    let p = err_from_is_err_and c.from_residual.result c.from_residual.ensures.1 in rw p.1
    (up-front (option_copied c.args.view.now.names) (stray_in c.args.view.now.patterns) c.args.rows.now c.loop-index.index _ _ c.loop-index.invariant _ c.row-row.result (omega arith) c.row-row.ensures c.in_err-put_stray.ensures)

pub loop-index-preserved : goal.loop-index-preserved
loop-index-preserved g c =
    up-more (option_copied c.args.view.now.names) (stray_in c.args.view.now.patterns) c.args.rows.now c.loop-index.index _ _ c.loop-index.invariant _ c.row-row.result (omega arith) c.row-row.ensures c.in_ok-put_stray.ensures

pub returns : goal.returns
returns g c = up-end (option_copied c.args.view.now.names) (stray_in c.args.view.now.patterns) c.args.rows.now c.loop-index.index _ _ c.loop-index.invariant (omega arith)
