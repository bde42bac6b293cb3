use Rattle.std.proofs.Common.{◌∷◌, []}
use Rattle.std.specs.Option.{option_copied}
use Rattle.std.proofs.lemmas.Result.{err_from_is_err_and}
use Rattle.census_page.proofs.Steps.{page-none, page-stops, stops-first}
use Rattle.census_page.proofs.fate.put_fate.Goals as goal

pub returns-in_err-head : goal.returns-in_err-head
returns-in_err-head g c = let p = err_from_is_err_and c.from_residual.result c.from_residual.ensures.1 in rw p.1 (stops-first (option_copied c.args.view.now.names) _ _)

pub returns-in_err-end : goal.returns-in_err-end
returns-in_err-end g c = let p = err_from_is_err_and c.from_residual-in_err-end.result c.from_residual-in_err-end.ensures.1 in rw p.1 (stops-first (option_copied c.args.view.now.names) _ _)

pub returns-in_err-put_row : goal.returns-in_err-put_row
returns-in_err-put_row g c = let p = err_from_is_err_and c.from_residual-in_err-put_row.result c.from_residual-in_err-put_row.ensures.1 in rw p.1 c.in_err-put_row.ensures

pub returns-in_err-put_growth : goal.returns-in_err-put_growth
returns-in_err-put_growth g c =
    let names = option_copied c.args.view.now.names in
    let p = err_from_is_err_and c.from_residual-in_err-put_growth.result c.from_residual-in_err-put_growth.ensures.1 in rw p.1
    (page-stops names (c.args.row.now ∷ []) _ _ _ c.in_ok-put_row.ensures c.in_err-put_growth.ensures)

pub returns : goal.returns
returns g c =
    let names = option_copied c.args.view.now.names in
    page-none names (c.args.row.now ∷ []) _ _ _ (page-none names (c.args.row.now ∷ []) _ _ _ c.in_ok-put_row.ensures c.in_ok-put_growth.ensures) c.put_html.ensures
