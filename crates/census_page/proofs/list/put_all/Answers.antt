use Rattle.std.proofs.lemmas.Result.{err_from_is_err_and}
use Rattle.census_page.proofs.Steps.{bits-front, bits-last, bits-more}
use Rattle.census_page.proofs.list.put_all.Goals as goal

pub returns-in_err-put_items : goal.returns-in_err-put_items
returns-in_err-put_items g c = let p = err_from_is_err_and c.from_residual.result c.from_residual.ensures.1 in rw p.1 (bits-front _ _ _ c.put_own.ensures c.in_err-put_items.ensures)

pub returns : goal.returns
returns g c = bits-last _ _ _ (bits-more _ _ _ (bits-more _ _ _ c.put_own.ensures c.in_ok-put_items.ensures) c.put_own-2.ensures) c.put_more.result c.put_more.ensures
