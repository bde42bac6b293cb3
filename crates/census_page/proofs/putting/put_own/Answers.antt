use Rattle.census_page.specs.Pages.{own_text}
use Rattle.census_page.proofs.Steps.{html-puts, own-html}
use Rattle.census_page.proofs.putting.put_own.Goals as goal

pub returns : goal.returns
returns g c = html-puts _ (own_text c.args.number) _ _ c.text_of.ensures (own-html c.args.number) c.put.ensures
