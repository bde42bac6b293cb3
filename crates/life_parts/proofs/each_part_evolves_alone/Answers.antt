use Rattle.life_parts.proofs.PartsLemmas.Evolving.{at_first, disjoint_later, first_classes, together_later, tied_later, whole_later}
use Rattle.life_parts.proofs.each_part_evolves_alone.Goals as goal

pub returns : goal.returns
returns c = record {
  together = λ R P Qs n are. together_later R P Qs (first_classes R P Qs are) n;
  disjoint = λ R P Qs n are. disjoint_later R P Qs (first_classes R P Qs are) are.once n;
  cells = λ R P Q Qs n d x are one h. (
    tied_later R P Qs (first_classes R P Qs are) Q one n d x (at_first R Q d h),
    whole_later R P Qs (first_classes R P Qs are) Q one n d x (at_first R Q d h),
  );
}
