use Rattle.std.specs.Option.{option_copied}
use Rattle.std.proofs.lemmas.Result.{err_from_is_err_and}
use Rattle.census_page.specs.Pages.{AreShown}
use Rattle.census_page.proofs.Tables.{all-exist, rows-at}
use Rattle.census_page.proofs.Steps.{none-rows, some-first}
use Rattle.census_page.proofs.whole_page.put_page.Goals as goal

pub returns-in_err-sections : goal.returns-in_err-sections
returns-in_err-sections g c =
    let p = err_from_is_err_and c.from_residual.result c.from_residual.ensures.1 in rw p.1
    (some-first (option_copied c.args.names) (AreShown c.args.options.now c.args.rows.now) (all-exist c.args.options.now _) _)

pub returns-in_err-front : goal.returns-in_err-front
returns-in_err-front g c =
    let p = err_from_is_err_and c.from_residual-in_err-front.result c.from_residual-in_err-front.ensures.1 in rw p.1
    (some-first (option_copied c.args.names) (AreShown c.args.options.now c.args.rows.now) (all-exist c.args.options.now _) _)

pub returns : goal.returns
returns g c =
    let names = option_copied c.args.names in
    none-rows names (AreShown c.args.options.now c.args.rows.now) _ _ _ c.put_body.result c.put_html.ensures
    (rows-at names c.args.options.now c.put_body.result _ _ _ _ c.in_ok-sections.ensures c.put_body.ensures)
