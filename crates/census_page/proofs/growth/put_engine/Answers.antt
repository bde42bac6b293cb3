use Rattle.std.proofs.lemmas.Result.{err_from_is_err_and}
use Rattle.census_page.proofs.Steps.{bits-first, bits-front, bits-more, bits-none}
use Rattle.census_page.proofs.growth.put_engine.Goals as goal

pub returns-then-not-is_engine : goal.returns-then-not-is_engine
returns-then-not-is_engine g c = bits-none _

pub returns-in_err-words : goal.returns-in_err-words
returns-in_err-words g c = let p = err_from_is_err_and c.from_residual.result c.from_residual.ensures.1 in rw p.1 (bits-first _)

pub returns-in_err-put_emitted : goal.returns-in_err-put_emitted
returns-in_err-put_emitted g c = let p = err_from_is_err_and c.from_residual-in_err-put_emitted.result c.from_residual-in_err-put_emitted.ensures.1 in rw p.1 (bits-front _ _ _ c.put_html.ensures c.in_err-put_emitted.ensures)

pub returns : goal.returns
returns g c = bits-more _ _ _ (bits-more _ _ _ c.put_html.ensures c.in_ok-put_emitted.ensures) c.put_own.ensures
