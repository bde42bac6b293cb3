-- Onset and period within a bound, by trying one generation after another.
use Rattle.std.specs.Prelude.{ℕ, zero, suc, ◌+◌, ◌-◌, Bool, Option, Some, None, is_some, if◌then◌else◌}
use Rattle.std.specs.Cmp.Lexicographic.{pointwise}
use Rattle.life_model.specs.Cell.{Cell, same_cell, plus, opposite}
use Rattle.life_model.specs.Rule.{Rule}
use Rattle.life_model.specs.Generation.{Generation, cells}
use Rattle.life_model.specs.Evolution.{generation}
use Rattle.life_model.specs.Symmetry.{normal, corner}

-- true where one set is the other, moved
abbrev pub same_shape : Generation → Generation → Bool
same_shape G H = pointwise same_cell (cells (normal G)) (cells (normal H))

-- the first of the `count` numbers from n on that passes the test
abbrev pub first_from : (ℕ → Bool) → ℕ → ℕ → Option ℕ
first_from test n zero = None
first_from test n (suc count) = if test n then Some n else first_from test (n + 1) count

-- true where generation g recurs after n steps, moved as a whole
abbrev pub comes_again : Rule → Generation → ℕ → ℕ → Bool
comes_again R G g n = same_shape (generation R G (g + n)) (generation R G g)

-- the number of steps after which generation g first recurs, no later than generation b
abbrev pub first_return : Rule → Generation → ℕ → ℕ → Option ℕ
first_return R G b g = first_from (comes_again R G g) 1 (b - g)

-- the first generation that recurs no later than generation b
abbrev pub first_onset : Rule → Generation → ℕ → Option ℕ
first_onset R G b = first_from (λ g. is_some (first_return R G b g)) 0 b

-- the offset of the second set's least x and least y from those of the first
abbrev pub corners_apart : Generation → Generation → Cell
corners_apart G H = plus (opposite (corner G)) (corner H)
