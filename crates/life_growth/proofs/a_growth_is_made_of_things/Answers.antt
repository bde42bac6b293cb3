use Rattle.life_growth.specs.Things.{lefts_within, listed}
use Rattle.life_growth.proofs.Things.{engine_is_made, lefts_are_made, settled_is_made}
use Rattle.life_growth.proofs.a_growth_is_made_of_things.Goals as goal

pub returns : goal.returns
returns c = record {
  settled = settled_is_made;
  engine = λ R b d E way ashes engine fallen.
      engine_is_made R b E way engine (lefts_within R d way ashes) (lefts_are_made R d way ashes fallen);
  listed = λ R b E way lists engine made. engine_is_made R b E way engine (listed lists) made;
}
