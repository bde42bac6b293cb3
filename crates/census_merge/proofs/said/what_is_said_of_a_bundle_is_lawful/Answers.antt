use Rattle.census_merge.proofs.BoundsLemmas.Readings.{bundle-lawful}
use Rattle.census_merge.proofs.said.what_is_said_of_a_bundle_is_lawful.Goals as goal

pub returns : goal.returns
returns c = λ b question bundle answered. bundle-lawful question answered b bundle
