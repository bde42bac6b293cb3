use Rattle.census_folders.proofs.Quiet.{nothing_lost}
use Rattle.census_folders.proofs.source.nothing_is_lost_where_reading_ends_at_the_first_loss.Goals as goal

pub returns : goal.returns
returns c = nothing_lost
