use Rattle.life_slots.proofs.KernelsLemmas.Kernels.{strands_count, strands_next}
use Rattle.life_slots.proofs.kernels.strands_tell_the_next_generation.Goals as goal

pub returns : goal.returns
returns c = record {
  count = strands_count;
  next = λ R G left y above here below up mid down rows u m d. strands_next G left y above here below up mid down rows u m d R;
}
