use Rattle.census_merge.proofs.BoundsLemmas.Several.{lawful-read}
use Rattle.census_merge.proofs.said.lawful_texts_are_read.Goals as goal

pub returns : goal.returns
returns c = lawful-read
