use Rattle.life_slots.proofs.KernelsLemmas.Sets.{nine_of_set, rows_of_set, window_of_set}
use Rattle.life_slots.proofs.kernels.each_row_is_of_a_set.Goals as goal

pub returns : goal.returns
returns c = record { rows = rows_of_set; window = window_of_set; tiles = nine_of_set }
