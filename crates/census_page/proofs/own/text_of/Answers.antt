use Rattle.census_page.specs.Pages.{own_text}
use Rattle.census_page.proofs.own.text_of.Goals as goal

pub returns : goal.returns
unfolding own_text
returns c = c.text_at.ensures
