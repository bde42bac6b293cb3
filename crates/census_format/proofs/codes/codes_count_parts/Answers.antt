use Rattle.census_format.proofs.PartCounts.{codes_count_parts}
use Rattle.census_format.proofs.codes.codes_count_parts.Goals as goal

pub returns : goal.returns
returns c = codes_count_parts
