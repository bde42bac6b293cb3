use Rattle.std.proofs.Common.{map, subst, sym}
use Rattle.std.specs.Option.{option_copied}
use Rattle.std.proofs.lemmas.Result.{err_from_is_err_and}
use Rattle.census_page.specs.Pages.{AreCodes, row_at}
use Rattle.census_page.proofs.Tables.{codes-exist}
use Rattle.census_page.proofs.Steps.{page-none, some-first}
use Rattle.census_page.proofs.section.put_code_table.Goals as goal

pub returns-in_err-places : goal.returns-in_err-places
returns-in_err-places g c =
    let p = err_from_is_err_and c.from_residual.result c.from_residual.ensures.1 in rw p.1
    (some-first (option_copied c.args.view.now.names) (AreCodes c.args.options.now c.args.rows.now) (codes-exist c.args.options.now c.args.rows.now) _)

pub returns-in_err-put_in_order : goal.returns-in_err-put_in_order
returns-in_err-put_in_order g c =
    let p = err_from_is_err_and c.from_residual-in_err-put_in_order.result c.from_residual-in_err-put_in_order.ensures.1 in rw p.1
    (some-first (option_copied c.args.view.now.names) (AreCodes c.args.options.now c.args.rows.now) (codes-exist c.args.options.now c.args.rows.now) _)

pub returns-in_err-numbers : goal.returns-in_err-numbers
returns-in_err-numbers g c =
    let p = err_from_is_err_and c.from_residual-in_err-numbers.result c.from_residual-in_err-numbers.ensures.1 in rw p.1
    (some-first (option_copied c.args.view.now.names) (AreCodes c.args.options.now c.args.rows.now) (codes-exist c.args.options.now c.args.rows.now) _)

pub returns-in_err-left : goal.returns-in_err-left
returns-in_err-left g c =
    let p = err_from_is_err_and c.from_residual-in_err-left.result c.from_residual-in_err-left.ensures.1 in rw p.1
    (some-first (option_copied c.args.view.now.names) (AreCodes c.args.options.now c.args.rows.now) (codes-exist c.args.options.now c.args.rows.now) _)

pub returns-in_err-put_chosen : goal.returns-in_err-put_chosen
returns-in_err-put_chosen g c =
    let rows = c.args.rows.now in
    let p = err_from_is_err_and c.from_residual-in_err-put_chosen.result c.from_residual-in_err-put_chosen.ensures.1 in rw p.1
    (record {
      rows = map (row_at rows) c.as_slice-told.result.now;
      are = subst (λ ns. AreCodes c.args.options.now rows (map (row_at rows) ns)) (sym c.as_slice-told.ensures.value) c.in_ok-numbers.ensures;
      puts = c.in_err-put_chosen.ensures;
    })

pub returns : goal.returns
returns g c =
    let rows = c.args.rows.now in
    record {
      rows = map (row_at rows) c.as_slice-told.result.now;
      are = subst (λ ns. AreCodes c.args.options.now rows (map (row_at rows) ns)) (sym c.as_slice-told.ensures.value) c.in_ok-numbers.ensures;
      puts = page-none (option_copied c.args.view.now.names) _ _ _ _ c.in_ok-put_chosen.ensures c.put_html.ensures;
    }
