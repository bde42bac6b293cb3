-- Tests of cells, of sets, and of the elements of a list.
use Rattle.std.specs.Prelude.{ℕ, zero, suc, ◌-ℤ◌, Bool, true, ◌&&◌, nat_le, unsigned_abs, List, [], ◌∷◌}
use Rattle.std.specs.Cmp.Lexicographic.{pointwise}
use Rattle.std.specs.List.{list_all, list_any}
use Rattle.life_model.specs.Cell.{Cell, same_cell}
use Rattle.life_model.specs.Generation.{Generation, cells}

-- true where two cells are within two of each other in both directions
abbrev pub are_near : Cell → Cell → Bool
are_near c d = nat_le (unsigned_abs (c.0 -ℤ d.0)) 2 && nat_le (unsigned_abs (c.1 -ℤ d.1)) 2

-- true where some cell of one is near some cell of the other
unfoldable pub meet : Generation → Generation → Bool
meet P Q = list_any (λ c. list_any (are_near c) (cells Q)) (cells P)

-- true where two sets have the same cells
abbrev pub same_set : Generation → Generation → Bool
same_set P Q = pointwise same_cell (cells P) (cells Q)

-- true where each number below n passes the test
abbrev pub each_below : (ℕ → Bool) → ℕ → Bool
each_below test zero = true
each_below test (suc n) = test n && each_below test n

-- true where each element passes the test with each later one
abbrev pub each_pair : {X : Type 0} → (X → X → Bool) → List X → Bool
each_pair test [] = true
each_pair test (x ∷ xs) = list_all (test x) xs && each_pair test xs
