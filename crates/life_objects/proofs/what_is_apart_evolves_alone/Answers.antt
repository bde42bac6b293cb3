use Rattle.life_objects.proofs.Alone.{next-union, next_disjoint}
use Rattle.life_objects.proofs.Times.{generation-union, before_from_while, disjoint_a_while, generation-union_ever}
use Rattle.life_objects.proofs.Times.{disjoint_ever}
use Rattle.life_objects.proofs.what_is_apart_evolves_alone.Goals as goal

pub returns : goal.returns
returns c = record {
  one_step = λ R P Q far. (next-union R P Q far, next_disjoint R P Q far);
  a_while = λ R b n P Q far h. (
    generation-union R n P Q (before_from_while R b n P Q far h),
    disjoint_a_while R b n P Q far h,
  );
  ever = λ R n P Q far. (generation-union_ever R n P Q far, disjoint_ever R n P Q far);
}
