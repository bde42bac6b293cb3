use Rattle.life_parts.proofs.PartsLemmas.Evolving.{at_first, in_at_first, part_of}
use Rattle.life_parts.proofs.PartsLemmas.Finest.{not_split, not_split_later}
use Rattle.life_parts.proofs.PartsLemmas.Forking.{three_alone}
use Rattle.life_parts.proofs.no_splitting_is_finer.Goals as goal

pub returns : goal.returns
returns c = record {
  ties = λ R P A others p n m d x y births r forks split t one h.
      not_split R births P forks p d r others split n m x y t A one h;
  parts = λ R P Q Qs others p d x y births r forks split are one h k A listed in_A.
      in_at_first R A y
      (not_split R births P forks p d r others split 0 0 x y ((part_of R P Qs are Q one).tied x y h k) A listed (at_first R A x in_A));
  later = λ R P others n m x y births forks split t. not_split_later R births P forks others split n m x y t;
  births = λ R three. three_alone R three;
  forks = λ R P none n x fork. absurd (none n x fork);
}
