use Rattle.census_compare.proofs.Alike.{told_by_texts}
use Rattle.census_compare.proofs.starts.least_texts_tell_sets.Goals as goal

pub returns : goal.returns
returns c = told_by_texts
