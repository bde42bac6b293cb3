-- Non-empty sets.
use Rattle.std.specs.Prelude.{Bool, not, ◌==◌}
use Rattle.life_model.specs.Generation.{Generation, size}

-- true if there is a cell
abbrev pub has_cells : Generation → Bool
has_cells G = not (size G == 0)
