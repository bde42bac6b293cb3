use Rattle.std.proofs.Common.{sym, ap, ◌∙◌}
use Rattle.life_model.specs.Evolution.{generation}
use Rattle.life_objects.proofs.Many.{list_ever, generations_apart}
use Rattle.life_objects.proofs.ash_goes_on_as_its_parts.Goals as goal

pub returns : goal.returns
returns c = record {
  future = λ R b n G parts ash. ap (λ H. generation R H n) (sym ash.together) ∙ list_ever R n parts ash.apart;
  apart = λ R b n G parts ash. generations_apart R n parts ash.apart;
}
