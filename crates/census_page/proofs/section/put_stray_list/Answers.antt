use Rattle.std.specs.Option.{option_copied}
use Rattle.std.proofs.lemmas.Result.{err_from_is_err_and}
use Rattle.census_page.proofs.Steps.{none-front, none-page, page-none}
use Rattle.census_page.proofs.section.put_stray_list.Goals as goal

pub returns-in_err-put_strays : goal.returns-in_err-put_strays
returns-in_err-put_strays g c =
    let p = err_from_is_err_and c.from_residual.result c.from_residual.ensures.1 in rw p.1
    (none-front (option_copied c.args.view.now.names) _ _ _ _ c.put_own.ensures c.in_err-put_strays.ensures)

pub returns : goal.returns
returns g c =
    let names = option_copied c.args.view.now.names in
    page-none names _ _ _ _ (none-page names _ _ _ _ c.put_own.ensures c.in_ok-put_strays.ensures) c.put_own-2.ensures
