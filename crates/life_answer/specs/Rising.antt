-- The rise of the numbers of objects where a pattern grows.
use Rattle.std.specs.Prelude.{ℕ, ◌+◌, ◌*◌, ◌/◌, List, [], ◌∷◌, if◌then◌else◌}
use Rattle.std.specs.List.{sum_by}
use Rattle.std.specs.Ordering.{eq_by_cmp}
use Rattle.life_answer.specs.declared.tale.Engines.{Engines}
use Rattle.life_answer.specs.declared.part.Part.{Part}
use Rattle.life_cells.specs.TextOrder.{shorter_cmp}

-- the number of objects with this code
abbrev pub number_of : List ℕ → List Part → ℕ
number_of code [] = 0
number_of code (part ∷ parts) = (if eq_by_cmp shorter_cmp code part.code then part.count else 0) + number_of code parts

-- the number of objects with this code that the engines of all lines emit in m generations
abbrev pub risen : List ℕ → ℕ → List Engines → ℕ
risen code m lines = sum_by (λ line. line.count * ((m / line.tale.period) * number_of code line.tale.emits)) lines
