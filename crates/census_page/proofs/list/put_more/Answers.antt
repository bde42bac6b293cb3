use Rattle.std.proofs.lemmas.Result.{err_from_is_err_and}
use Rattle.census_page.proofs.Steps.{bits-first, bits-front, bits-more, bits-none}
use Rattle.census_page.proofs.list.put_more.Goals as goal

pub returns-then-is_empty : goal.returns-then-is_empty
returns-then-is_empty g c = bits-none _

pub returns-in_err-front : goal.returns-in_err-front
returns-in_err-front g c = let p = err_from_is_err_and c.from_residual.result c.from_residual.ensures.1 in rw p.1 (bits-first _)

pub returns-in_err-put_items : goal.returns-in_err-put_items
returns-in_err-put_items g c = let p = err_from_is_err_and c.from_residual-in_err-put_items.result c.from_residual-in_err-put_items.ensures.1 in rw p.1 (bits-front _ _ _ c.put_html.ensures c.in_err-put_items.ensures)

pub returns : goal.returns
returns g c = bits-more _ _ _ (bits-more _ _ _ c.put_html.ensures c.in_ok-put_items.ensures) c.put_own.ensures
