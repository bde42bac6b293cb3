use Rattle.std.proofs.Common.{◌∙◌, refl}
use Rattle.census_crew.proofs.Lost.{among}
use Rattle.census_crew.proofs.losing.is_among.Goals as goal

pub returns : goal.returns
returns c = c.contains.ensures.value ∙ among _ c.args.tickets.now c.args.ticket (λ u. refl)
