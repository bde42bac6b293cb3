-- Relations between steps, and the numbers of times that each step is made in a sum of them.
use Rattle.std.specs.Prelude.{◌≡◌, ◌≢◌, ℕ, zero, suc, ◌<◌, ◌≤◌, ℤ, pos, negsuc, ◌+ℤ◌, ◌-ℤ◌, ◌*ℤ◌, List, [], ◌∷◌, length}
use Rattle.life_growth.specs.Meeting.Sums.{Step, and_then, rest_after, stay, sum_of, times}

-- c is a sum of the steps, each made any number of times
abbrev pub IsSumOf : List Step → Step → Type 0
IsSumOf us c = (often : List ℕ) × (sum_of us often ≡ c)

-- the list without the element in place i
abbrev pub left_out : List Step → ℕ → List Step
left_out [] i = []
left_out (u ∷ us) zero = us
left_out (u ∷ us) (suc i) = u ∷ left_out us i

-- the step in place i, or the one that stays if there is none
abbrev pub step_at : List Step → ℕ → Step
step_at [] i = stay
step_at (u ∷ us) zero = u
step_at (u ∷ us) (suc i) = step_at us i

-- the number in place i, or 0 if there is none
abbrev pub number_at : List ℕ → ℕ → ℕ
number_at [] i = 0
number_at (k ∷ ks) zero = k
number_at (k ∷ ks) (suc i) = number_at ks i

-- what is left of c after the step in place i has been made `often` times
abbrev pub rest_of : List Step → ℕ → Step → ℕ → Step
rest_of us i c often = rest_after c (times often (step_at us i))

-- The steps have the same sum, whether each is made the number of times in `ups` or in `downs`. `ups` has some step, and no
-- step is in both.
pub record IsRelation (us : List Step) (ups downs : List ℕ) : Type 0 where
  pub same : sum_of us ups ≡ sum_of us downs
  pub place : ℕ
  pub within : place < length us
  pub some : 1 ≤ number_at ups place
  pub apart : (i : ℕ) → 1 ≤ number_at ups i → number_at downs i ≡ 0

-- f of a sum of two steps is the sum of f of each
pub record IsAdditive (f : Step → ℤ) : Type 0 where
  pub adds : (u v : Step) → f (and_then u v) ≡ (f u +ℤ f v)
  pub stays : f stay ≡ pos 0

-- f is 0 for each of the steps but that in place i
pub record SinglesOut (f : Step → ℤ) (us : List Step) (i : ℕ) : Type 0 where
  pub additive : IsAdditive f
  pub others : (j : ℕ) → f (step_at (left_out us i) j) ≡ pos 0
  pub some : f (step_at us i) ≢ pos 0

-- the product of two steps, coordinate by coordinate, added up
abbrev pub product : Step → Step → ℤ
product n u = (n.0 *ℤ u.0) +ℤ ((n.1.0 *ℤ u.1.0) +ℤ (n.1.1 *ℤ u.1.1))

-- n is orthogonal to each of the steps but that in place i
pub record IsSquare (n : Step) (us : List Step) (i : ℕ) : Type 0 where
  pub others : (j : ℕ) → product n (step_at (left_out us i) j) ≡ pos 0
  pub some : product n (step_at us i) ≢ pos 0

-- the cross product of two steps
abbrev pub cross : Step → Step → Step
cross v w = (
  (v.1.0 *ℤ w.1.1) -ℤ (v.1.1 *ℤ w.1.0),
  ((v.1.1 *ℤ w.0) -ℤ (v.0 *ℤ w.1.1), (v.0 *ℤ w.1.0) -ℤ (v.1.0 *ℤ w.0)),
)

-- the volume that three steps span, with its sign
abbrev pub spanned : Step → Step → Step → ℤ
spanned u v w = product (cross v w) u

-- a step made a whole number of times, forward or back
abbrev pub scaled : ℤ → Step → Step
scaled a u = (a *ℤ u.0, (a *ℤ u.1.0, a *ℤ u.1.1))

-- the sum of the steps, each made the number of times in `numbers`, forward or back
abbrev pub combination : List Step → List ℤ → Step
combination [] numbers = stay
combination (u ∷ us) [] = stay
combination (u ∷ us) (a ∷ numbers) = and_then (scaled a u) (combination us numbers)

-- the amount by which a number is above 0, and that by which it is below
abbrev pub above : ℤ → ℕ
above (pos n) = n
above (negsuc n) = 0

abbrev pub below : ℤ → ℕ
below (pos n) = 0
below (negsuc n) = suc n
