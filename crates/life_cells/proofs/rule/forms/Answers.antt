use Rattle.life_cells.proofs.FormLemmas.{form_found, form_is}
use Rattle.life_cells.proofs.rule.forms.Goals as goal

pub returns : goal.returns
returns c = record { found = form_found; only = form_is }
