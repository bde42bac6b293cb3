use Rattle.life_answer.proofs.Ashes.{ash_is_so, ash_no_growth}
use Rattle.life_answer.proofs.Growing.{ash_answered, ash_never_grows}
use Rattle.life_answer.proofs.Told.{growth_is_so}
use Rattle.life_model.specs.Evolution.{generation}
use Rattle.life_answer.proofs.growth_laws.what_is_ash_never_grows.Goals as goal

pub returns : goal.returns
returns x = record {
  told = λ near close R b c m n onset G parts told ash grows.
      let here = ash_is_so near R b (generation R G m) onset parts ash in
      let there = growth_is_so close R c (generation R G n) told grows in
      ash_no_growth near R b c m n G here.0 there.0 there.1 here.1 there.2;
  answered = λ near close limit R b c onset horizon G. ash_never_grows close R G near limit b c onset horizon;
  found = λ near limit R b onset horizon G. ash_answered near R G limit b onset horizon;
}
