use Rattle.census_merge.proofs.BoundsLemmas.Readings.{all-in-range}
use Rattle.census_merge.proofs.bounds.what_is_found_is_in_range.Goals as goal

pub returns : goal.returns
returns c = λ b question bundle answered. all-in-range question answered b bundle
