use Rattle.std.proofs.Common.{◌∷◌, [], ◌∙◌, sym}
use Rattle.std.specs.Option.{option_copied}
use Rattle.std.proofs.lemmas.Result.{err_from_is_err_and}
use Rattle.census_page.proofs.Steps.{page-none, page-stops, puts-failed, stops-first}
use Rattle.census_page.proofs.code_row.put_code.Goals as goal

pub returns-then-failed : goal.returns-then-failed
returns-then-failed g c = puts-failed (option_copied c.args.view.now.names) (c.args.row.now ∷ []) _ (sym c.failed.ensures ∙ c.if-failed.true)

pub returns-in_err-shape : goal.returns-in_err-shape
returns-in_err-shape g c = let p = err_from_is_err_and c.from_residual.result c.from_residual.ensures.1 in rw p.1 (stops-first (option_copied c.args.view.now.names) _ _)

pub returns-in_err-way : goal.returns-in_err-way
returns-in_err-way g c = let p = err_from_is_err_and c.from_residual-in_err-way.result c.from_residual-in_err-way.ensures.1 in rw p.1 (stops-first (option_copied c.args.view.now.names) _ _)

pub returns-in_err-front : goal.returns-in_err-front
returns-in_err-front g c = let p = err_from_is_err_and c.from_residual-in_err-front.result c.from_residual-in_err-front.ensures.1 in rw p.1 (stops-first (option_copied c.args.view.now.names) _ _)

pub returns-in_err-middle : goal.returns-in_err-middle
returns-in_err-middle g c = let p = err_from_is_err_and c.from_residual-in_err-middle.result c.from_residual-in_err-middle.ensures.1 in rw p.1 (stops-first (option_copied c.args.view.now.names) _ _)

pub returns-in_err-put_row : goal.returns-in_err-put_row
returns-in_err-put_row g c = let p = err_from_is_err_and c.from_residual-in_err-put_row.result c.from_residual-in_err-put_row.ensures.1 in rw p.1 c.in_err-put_row.ensures

pub returns-in_err-put_list : goal.returns-in_err-put_list
returns-in_err-put_list g c =
    let names = option_copied c.args.view.now.names in
    let p = err_from_is_err_and c.from_residual-in_err-put_list.result c.from_residual-in_err-put_list.ensures.1 in rw p.1
    (page-stops names (c.args.row.now ∷ []) _ _ _ (page-none names (c.args.row.now ∷ []) _ _ _ c.in_ok-put_row.ensures c.put_html.ensures) c.in_err-put_list.ensures)

pub returns : goal.returns
returns g c =
    let names = option_copied c.args.view.now.names in
    page-none names (c.args.row.now ∷ []) _ _ _
    (page-none names (c.args.row.now ∷ []) _ _ _ (page-none names (c.args.row.now ∷ []) _ _ _ c.in_ok-put_row.ensures c.put_html.ensures) c.in_ok-put_list.ensures)
    c.put_own.ensures
