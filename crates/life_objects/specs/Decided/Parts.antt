-- The period of a set that recurs, and the number of generations that decides whether two such sets stay apart.
use Rattle.std.specs.Prelude.{ℕ, zero, suc, ◌+◌, ◌*◌, Bool, not, map, unsigned_abs, if◌then◌else◌}
use Rattle.life_model.specs.Box.{extent}
use Rattle.life_model.specs.Cell.{Cell, opposite, plus}
use Rattle.life_model.specs.Rule.{Rule}
use Rattle.life_model.specs.Generation.{Generation, cells}
use Rattle.life_model.specs.Evolution.{generation}
use Rattle.life_model.specs.Symmetry.{corner, translate_of, normal}
use Rattle.life_objects.specs.Drift.{multiple_of}
use Rattle.life_objects.specs.Decided.Tests.{each_below, meet, same_set}

-- true where generation n of P is P, moved as a whole
abbrev pub returns_after : Rule → Generation → ℕ → Bool
returns_after R P n = same_set (normal (generation R P n)) (normal P)

-- the first of `count` numbers from n on that passes the test, or 0 if none does
abbrev pub first_or_zero : (ℕ → Bool) → ℕ → ℕ → ℕ
first_or_zero test n zero = 0
first_or_zero test n (suc count) = if test n then n else first_or_zero test (n + 1) count

-- the number of generations, from 1 to b, after which P first recurs, or 0 if it doesn't
abbrev pub period : Rule → ℕ → Generation → ℕ
period R b P = first_or_zero (returns_after R P) 1 b

-- the offset of the least x and the least y of generation n from those of P
abbrev pub corner_offset : Rule → Generation → ℕ → Cell
corner_offset R P n = plus (opposite (corner P)) (corner (generation R P n))

-- The set that recurs and becomes what L becomes: L after b periods of its generation b, moved back as far.
unfoldable pub part_of : Rule → ℕ → Generation → Generation
part_of R b L =
    let last = generation R L b in
    let n = period R b last in
    translate_of (generation R L (b * n)) (opposite (multiple_of b (corner_offset R last n)))

-- a number greater than |x| + |y| of any cell of P
abbrev pub reach : Generation → ℕ
reach P = extent (map (λ c. unsigned_abs c.0 + unsigned_abs c.1) (cells P))

-- Two sets that recur within b both do so after n generations. If they move alike, these decide whether they stay apart. If not,
-- they have passed each other after this many: within n generations neither grows by more than n on each side, and in n
-- generations they drift apart by at least one.
unfoldable pub horizon : Rule → ℕ → Generation → Generation → ℕ
horizon R b P Q =
    let n = period R b P * period R b Q in
    (reach P + reach Q + 2 * n + 3) * n

-- true where two sets that recur within b stay apart for ever
abbrev pub stay_apart : Rule → ℕ → Generation → Generation → Bool
stay_apart R b P Q = each_below (λ n. not (meet (generation R P n) (generation R Q n))) (horizon R b P Q)
