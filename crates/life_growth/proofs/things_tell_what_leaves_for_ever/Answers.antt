use Rattle.life_growth.specs.Things.{lefts_within, listed}
use Rattle.life_growth.proofs.Things.{lefts_are_made, leaves_cores_by_things, leaves_lefts_by_things, things_by_leaving}
use Rattle.life_growth.proofs.things_tell_what_leaves_for_ever.Goals as goal

pub returns : goal.returns
returns c = record {
  settled = λ R b way ashes later fallen.
      let its = lefts_within R b way ashes in
      let made = lefts_are_made R b way ashes fallen in (
        λ both. things_by_leaving R way later its made both.0 both.1,
        λ never. (
          leaves_cores_by_things R way later its made never,
          leaves_lefts_by_things R way later its made never,
        ),
      );
  listed = λ R way lists later made. (
    λ both. things_by_leaving R way later (listed lists) made both.0 both.1,
    λ never. (
      leaves_cores_by_things R way later (listed lists) made never,
      leaves_lefts_by_things R way later (listed lists) made never,
    ),
  );
}
