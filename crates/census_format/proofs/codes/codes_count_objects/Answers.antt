use Rattle.census_format.proofs.ObjectCounts.{codes_count_objects}
use Rattle.census_format.proofs.codes.codes_count_objects.Goals as goal

pub returns : goal.returns
returns c = codes_count_objects
