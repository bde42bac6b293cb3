use Rattle.life_growth.proofs.Lasting.{core_from_debris, debris_falls_apart, engine_becomes}
use Rattle.life_growth.proofs.an_engine_becomes_its_core_and_debris.Goals as goal

pub returns : goal.returns
returns c = record {
  together = engine_becomes;
  apart = core_from_debris;
  settles = debris_falls_apart;
}
