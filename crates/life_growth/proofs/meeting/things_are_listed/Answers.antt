use Rattle.life_growth.proofs.MeetingLemmas.Engines.{engine_is_listed}
use Rattle.life_growth.proofs.MeetingLemmas.Listed.{settled_is_listed}
use Rattle.life_growth.proofs.meeting.things_are_listed.Goals as goal

pub returns : goal.returns
returns c = record {
  settled = settled_is_listed;
  engine = λ R b d E way ashes engine fallen. engine_is_listed R b d E way engine ashes fallen;
}
