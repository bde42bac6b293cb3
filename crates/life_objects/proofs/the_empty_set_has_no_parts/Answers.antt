use Rattle.life_objects.proofs.Ashes.{IsAsh-empty, parts_of_empty}
use Rattle.life_objects.proofs.the_empty_set_has_no_parts.Goals as goal

pub returns : goal.returns
returns c = record { none = IsAsh-empty; only = parts_of_empty }
