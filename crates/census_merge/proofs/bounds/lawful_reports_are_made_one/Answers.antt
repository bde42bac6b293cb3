use Rattle.census_merge.proofs.BoundsLemmas.Several.{reports-made}
use Rattle.census_merge.proofs.bounds.lawful_reports_are_made_one.Goals as goal

pub returns : goal.returns
returns c = λ asked reports answered some bundles each. reports-made asked reports answered some bundles each
