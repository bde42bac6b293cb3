use Rattle.life_objects.proofs.Beginning.{one_before, sets_before}
use Rattle.life_objects.proofs.what_recurs_has_a_past.Goals as goal

pub returns : goal.returns
returns c = record {
  some = λ R n laters all. sets_before R laters all n;
  one = λ R n P Q one other same. one_before R P Q n one other same;
}
