use Rattle.life_objects.proofs.OneList.{parts_differ, part_of_both, one_list}
use Rattle.life_objects.proofs.ash_has_one_list_of_parts.Goals as goal

pub returns : goal.returns
returns c = record {
  one = one_list;
  once = parts_differ;
  members = λ R b d G parts others ash too P. (
    part_of_both R b d G parts others ash too P,
    part_of_both R d b G others parts too ash P,
  );
}
