use Rattle.life_slots.proofs.KernelsLemmas.Kernels.{nine_counts, nine_next, nine_window}
use Rattle.life_slots.proofs.kernels.tiles_tell_the_next_generation.Goals as goal

pub returns : goal.returns
returns c = record {
  count = nine_counts;
  next = λ R G left top nine is. nine_next G left top nine is R;
  window = λ G left top nine window from is. nine_window G left top nine is window from;
}
