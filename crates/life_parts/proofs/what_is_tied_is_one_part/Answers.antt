use Rattle.life_parts.proofs.PartsLemmas.Lists.{no_part, one_part}
use Rattle.life_parts.proofs.what_is_tied_is_one_part.Goals as goal

pub returns : goal.returns
returns c = record { one = one_part; none = no_part }
