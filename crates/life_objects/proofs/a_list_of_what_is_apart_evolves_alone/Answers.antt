use Rattle.life_objects.proofs.Many.{next-union_of, next_pairs_disjoint, list_a_while, list_disjoint_a_while}
use Rattle.life_objects.proofs.Many.{list_ever, list_disjoint_ever}
use Rattle.life_objects.proofs.a_list_of_what_is_apart_evolves_alone.Goals as goal

pub returns : goal.returns
returns c = record {
  one_step = λ R Ps far. (next-union_of R Ps far, next_pairs_disjoint R Ps far);
  a_while = λ R b n Ps far h. (list_a_while R b n Ps far h, list_disjoint_a_while R b n Ps far h);
  ever = λ R n Ps far. (list_ever R n Ps far, list_disjoint_ever R n Ps far);
}
