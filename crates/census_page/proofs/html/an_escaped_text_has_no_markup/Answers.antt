use Rattle.census_page.proofs.Escaping.{escaped-harmless}
use Rattle.census_page.proofs.html.an_escaped_text_has_no_markup.Goals as goal

pub returns : goal.returns
returns c = escaped-harmless
