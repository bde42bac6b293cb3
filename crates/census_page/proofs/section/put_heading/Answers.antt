use Rattle.std.proofs.lemmas.Result.{err_from_is_err_and}
use Rattle.census_page.proofs.Steps.{bits-first, bits-more}
use Rattle.census_page.proofs.section.put_heading.Goals as goal

pub returns-in_err-front : goal.returns-in_err-front
returns-in_err-front g c = let p = err_from_is_err_and c.from_residual.result c.from_residual.ensures.1 in rw p.1 (bits-first _)

pub returns-in_err-lives : goal.returns-in_err-lives
returns-in_err-lives g c = let p = err_from_is_err_and c.from_residual-in_err-lives.result c.from_residual-in_err-lives.ensures.1 in rw p.1 (bits-first _)

pub returns : goal.returns
returns g c = bits-more _ _ _ c.put_html.ensures c.put_html-2.ensures
