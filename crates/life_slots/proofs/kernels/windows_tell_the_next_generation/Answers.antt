use Rattle.life_slots.proofs.KernelsLemmas.Kernels.{window_counts, window_next}
use Rattle.life_slots.proofs.kernels.windows_tell_the_next_generation.Goals as goal

pub returns : goal.returns
returns c = record { count = window_counts; next = λ R G left top window is. window_next G left top window is R }
