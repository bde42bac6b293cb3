-- A search that decides whether a step is a sum of given steps, each made any number of times.
use Rattle.std.specs.Prelude.{ℕ, zero, suc, ℤ, pos, negsuc, ◌+ℤ◌, ◌-ℤ◌, ◌+◌, ◌*◌, Bool, nat_eq, unsigned_abs, List, [], ◌∷◌, map, flat_map, filter, length}
use Rattle.std.specs.List.{list_any}
use Rattle.life_model.specs.Cell.{Cell, origin, plus}

-- a number of generations and a move
abbrev pub Step : Type 0
Step = ℤ × Cell

abbrev pub stay : Step
stay = (pos 0, origin)

abbrev pub and_then : Step → Step → Step
and_then u v = (u.0 +ℤ v.0, plus u.1 v.1)

-- the step that is left of u after v
abbrev pub rest_after : Step → Step → Step
rest_after u v = (u.0 -ℤ v.0, (u.1.0 -ℤ v.1.0, u.1.1 -ℤ v.1.1))

abbrev pub times : ℕ → Step → Step
times zero u = stay
times (suc n) u = and_then (times n u) u

-- the sum of the steps, each made the number of times that `often` has for it
abbrev pub sum_of : List Step → List ℕ → Step
sum_of [] often = stay
sum_of (u ∷ us) [] = stay
sum_of (u ∷ us) (k ∷ often) = and_then (times k u) (sum_of us often)

-- the sums of at most n of the steps
unfoldable pub sums_within : List Step → ℕ → List Step
sums_within us zero = stay ∷ []
sums_within us (suc n) = flat_map (λ x. x ∷ map (and_then x) us) (sums_within us n)

-- the size of a number, and 1 for 0
abbrev pub size : ℤ → ℕ
size (pos zero) = 1
size (pos (suc a)) = suc a
size (negsuc a) = suc a

-- a common multiple of the sizes of one coordinate, and their sum
abbrev pub common : (Step → ℤ) → List Step → ℕ
common f [] = 1
common f (u ∷ us) = size (f u) * common f us

abbrev pub sizes : (Step → ℤ) → List Step → ℕ
sizes f [] = 0
sizes f (u ∷ us) = unsigned_abs (f u) + sizes f us

-- the sums that come back to 0 in one coordinate, of at most twice as many steps as that multiple
abbrev pub returning : (Step → ℤ) → List Step → List Step
returning f us = filter (λ u. nat_eq (unsigned_abs (f u)) 0) (sums_within us (2 * common f us))

-- the greatest number of steps that are left when what comes back to 0 has been taken out
abbrev pub enough_steps : (Step → ℤ) → List Step → Step → ℕ
enough_steps f us c =
    length us * common f us + (unsigned_abs (f c) + length us * common f us * sizes f us) * common f us

-- the steps that are left of c after at most `enough_steps` steps
abbrev pub rests : (Step → ℤ) → List Step → Step → List Step
rests f us c = map (rest_after c) (sums_within us (enough_steps f us c))

abbrev pub time : Step → ℤ
time u = u.0

abbrev pub across : Step → ℤ
across u = u.1.0

abbrev pub along : Step → ℤ
along u = u.1.1

abbrev pub is_stay : Step → Bool
is_stay u = nat_eq (unsigned_abs u.0 + unsigned_abs u.1.0 + unsigned_abs u.1.1) 0

-- True where c is a sum of the steps: of a few of them, then a few sums that take no time, then a few that don't go
-- across either.
unfoldable pub is_sum : List Step → Step → Bool
is_sum us c =
    let timeless = returning time us in
    let upright = returning across timeless in
    list_any (λ r. list_any (λ s. list_any is_stay (rests along upright s)) (rests across timeless r)) (rests time us c)
