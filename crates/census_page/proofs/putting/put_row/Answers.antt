use Rattle.std.proofs.Common.{◌∷◌, ◌∙◌, []}
use Rattle.std.proofs.lemmas.Result.{err_from_is_err_and}
use Rattle.std.specs.Option.{option_copied}
use Rattle.census_page.specs.Pages.{row_text}
use Rattle.census_page.proofs.Steps.{row-puts, stops-first}
use Rattle.census_page.proofs.putting.put_row.Goals as goal

pub returns-in_err-name : goal.returns-in_err-name
returns-in_err-name g c = let p = err_from_is_err_and c.from_residual.result c.from_residual.ensures.1 in rw p.1 (stops-first (option_copied c.args.names) (c.args.row.now ∷ []) _)

pub returns : goal.returns
unfolding row_text
returns g c = row-puts (option_copied c.args.names) c.args.row.now _ _ _ _ _ _ c.as_slice.ensures (c.as_slice-2.ensures.value ∙ c.in_ok-name.ensures) c.put.ensures c.put-2.ensures c.put-3.ensures
