use Rattle.census_merge.proofs.Joined.{joined-tell}
use Rattle.census_merge.proofs.laws.merged_rows_tell_the_collections_joined.Goals as goal

pub returns : goal.returns
returns c = joined-tell
