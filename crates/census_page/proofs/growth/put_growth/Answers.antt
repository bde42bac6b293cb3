use Rattle.std.proofs.lemmas.Result.{err_from_is_err_and}
use Rattle.census_page.proofs.Steps.{bits-front, bits-more, bits-none}
use Rattle.census_page.proofs.growth.put_growth.Goals as goal

pub loop-index-init : goal.loop-index-init
loop-index-init g c = bits-none _

pub returns-in_err-put_engine : goal.returns-in_err-put_engine
returns-in_err-put_engine g c = let p = err_from_is_err_and c.from_residual.result c.from_residual.ensures.1 in rw p.1 (bits-front _ _ _ c.loop-index.invariant c.in_err-put_engine.ensures)

pub loop-index-preserved : goal.loop-index-preserved
loop-index-preserved g c = bits-more _ _ _ c.loop-index.invariant c.in_ok-put_engine.ensures
