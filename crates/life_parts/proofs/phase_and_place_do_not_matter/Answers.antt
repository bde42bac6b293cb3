use Rattle.life_parts.proofs.PartsLemmas.Lists.{later_parts, moved_parts}
use Rattle.life_parts.proofs.PartsLemmas.Turned.{turned_parts}
use Rattle.life_parts.proofs.phase_and_place_do_not_matter.Goals as goal

pub returns : goal.returns
returns c = record {
  later = λ R P Qs p k d r are. later_parts R P Qs are p d r k;
  moved = λ R P Qs d are. moved_parts R P d Qs are;
  turned = λ R P Qs m are. turned_parts R P m Qs are;
}
