use Rattle.life_answer.proofs.Ashes.{census_ash, census_none}
use Rattle.life_answer.proofs.ash_laws.the_census_is_right.Goals as goal

pub returns : goal.returns
returns c = record { ash = census_ash; otherwise = census_none }
