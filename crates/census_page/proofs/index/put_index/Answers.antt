use Rattle.std.proofs.lemmas.Result.{err_from_is_err_and}
use Rattle.census_page.proofs.Steps.{bits-more, bits-none, bits-stop}
use Rattle.census_page.proofs.index.put_index.Goals as goal

pub loop-index-init : goal.loop-index-init
loop-index-init g c = bits-none _

pub returns-in_err-html : goal.returns-in_err-html
returns-in_err-html g c = let p = err_from_is_err_and c.from_residual.result c.from_residual.ensures.1 in rw p.1 (bits-stop _ _ c.loop-index.invariant)

pub loop-index-preserved : goal.loop-index-preserved
loop-index-preserved g c = bits-more _ _ _ c.loop-index.invariant c.put_html.ensures
