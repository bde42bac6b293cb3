use Rattle.life_growth.specs.Things.{IsEngineThing, IsSettledThing, lefts_within}
use Rattle.life_growth.proofs.Things.{apart_by_things, engine_is_made, lefts_are_made, settled_is_made, things_by_apart}
use Rattle.life_growth.proofs.things_tell_what_stays_apart.Goals as goal

pub returns : goal.returns
returns c = record {
  engines = λ R b d E F way other ashes others engine too fallen fell.
      let its = IsEngineThing way (lefts_within R b way ashes) in
      let theirs = IsEngineThing other (lefts_within R d other others) in
      let one = engine_is_made R b E way engine (lefts_within R b way ashes) (lefts_are_made R b way ashes fallen) in
      let two = engine_is_made R d F other too (lefts_within R d other others) (lefts_are_made R d other others fell) in (
        things_by_apart R E F its theirs one two,
        apart_by_things R E F its theirs one two,
      );
  debris = λ R b d E S way ashes parts engine settled fallen.
      let its = IsEngineThing way (lefts_within R b way ashes) in
      let one = settled_is_made R d d S parts settled in
      let two = engine_is_made R b E way engine (lefts_within R b way ashes) (lefts_are_made R b way ashes fallen) in (
        things_by_apart R S E (IsSettledThing R d S parts) its one two,
        apart_by_things R S E (IsSettledThing R d S parts) its one two,
      );
}
