use Rattle.std.proofs.Common.{◌∙◌, sym}
use Rattle.std.specs.Option.{option_copied}
use Rattle.std.proofs.lemmas.Result.{err_from_is_err_and}
use Rattle.census_page.specs.Pages.{AreOf}
use Rattle.census_page.proofs.Tables.{both-tables, first-front, one-exists, second-front}
use Rattle.census_page.proofs.Steps.{heading-front, none-some, none-some-front, some-failed, some-none}
use Rattle.census_page.proofs.section.put_section.Goals as goal

pub returns-then-failed : goal.returns-then-failed
returns-then-failed g c =
    some-failed (option_copied c.args.names) (AreOf c.args.options.now c.args.rows.now) (one-exists c.args.options.now c.args.rows.now) _ (sym c.failed.ensures ∙ c.if-failed.true)

pub returns-in_err-put_heading : goal.returns-in_err-put_heading
returns-in_err-put_heading g c =
    let names = option_copied c.args.names in
    let e = one-exists c.args.options.now c.args.rows.now in
    let p = err_from_is_err_and c.from_residual.result c.from_residual.ensures.1 in rw p.1
    (record { rows = e.0; are = e.1; puts = heading-front names e.0 _ _ c.in_err-put_heading.ensures })

pub returns-in_err-put_code_table : goal.returns-in_err-put_code_table
returns-in_err-put_code_table g c =
    let names = option_copied c.args.names in
    let p = err_from_is_err_and c.from_residual-in_err-put_code_table.result c.from_residual-in_err-put_code_table.ensures.1 in rw p.1
    (none-some-front names (AreOf c.args.options.now c.args.rows.now) _ _ _ c.in_ok-put_heading.ensures
    (first-front names c.args.options.now c.args.rows.now _ _ c.in_err-put_code_table.ensures))

pub returns-in_err-put_stray_table : goal.returns-in_err-put_stray_table
returns-in_err-put_stray_table g c =
    let names = option_copied c.args.names in
    let p = err_from_is_err_and c.from_residual-in_err-put_stray_table.result c.from_residual-in_err-put_stray_table.ensures.1 in rw p.1
    (none-some-front names (AreOf c.args.options.now c.args.rows.now) _ _ _ c.in_ok-put_heading.ensures
    (second-front names c.args.options.now c.args.rows.now _ _ _ c.in_ok-put_code_table.ensures c.in_err-put_stray_table.ensures))

pub returns : goal.returns
returns g c =
    let names = option_copied c.args.names in
    some-none names (AreOf c.args.options.now c.args.rows.now) _ _ _
    (none-some names (AreOf c.args.options.now c.args.rows.now) _ _ _ c.in_ok-put_heading.ensures
    (both-tables names c.args.options.now c.args.rows.now _ _ _ c.in_ok-put_code_table.ensures c.in_ok-put_stray_table.ensures))
    c.put_own.ensures
