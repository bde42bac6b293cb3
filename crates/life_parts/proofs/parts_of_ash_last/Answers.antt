use Rattle.life_parts.proofs.PartsLemmas.Ashes.{one_list_later, parts_later}
use Rattle.life_parts.proofs.parts_of_ash_last.Goals as goal

pub returns : goal.returns
returns c = record {
  later = λ R b n G objects lists ash each. parts_later R b G objects lists ash each n;
  same = one_list_later;
}
