-- The rounds after which a set that moves further has passed another, and before which it has not come near it.
use Rattle.std.specs.Prelude.{◌≡◌, ◌⊎◌, ℕ, ◌*◌, ◌<◌, ◌≤◌, ℤ, pos, ◌+ℤ◌, ◌≤ℤ◌}
use Rattle.std.specs.Int.{int_max, int_min}
use Rattle.life_model.specs.Cell.{Cell}
use Rattle.life_model.specs.Evolution.{generation}
use Rattle.life_model.specs.Generation.{Generation}
use Rattle.life_model.specs.Rule.{Rule}
use Rattle.life_objects.specs.Apart.{AreApart}
use Rattle.life_orbit.specs.declared.hull.Hull.{Hull}
use Rattle.life_orbit.specs.declared.lanes.Lane.{Lane}

-- the first place of the set that is further on along an axis, the last place of the other, the distance that each moves in a
-- round, and a number of rounds
pub record Passing : Type 0 where
  pub first : ℤ
  pub by : ℤ
  pub other_last : ℤ
  pub other_by : ℤ
  pub rounds : ℕ

-- lane a passing lane b in k rounds
abbrev pub passing : Lane → Lane → ℕ → Passing
passing a b k = record { first = a.first; by = a.by; other_last = b.last; other_by = b.by; rounds = k }

-- Cells at `first` or further on move by `by` in a round, and cells at `other_last` or before it by `other_by`, which is no
-- more. After the rounds the former are at least three places further on than the latter.
pub record IsPassed (p : Passing) : Type 0 where
  pub order : p.other_by ≤ℤ p.by
  pub passes : (gain : ℕ) → p.by ≡ p.other_by +ℤ pos gain →
      ((p.other_last +ℤ int_max (pos 0) p.other_by) +ℤ pos 3) ≤ℤ ((p.first +ℤ int_min (pos 0) p.by) +ℤ pos (p.rounds * gain))

-- Cells at `first` or further on move by `by` in a round, and cells at `other_last` or before it by `other_by`, which is no
-- less. In each round before that number the former are at least three places further on than the latter.
pub record IsYetAhead (p : Passing) : Type 0 where
  pub order : p.by ≤ℤ p.other_by
  pub ahead : (loss k : ℕ) → p.other_by ≡ p.by +ℤ pos loss → k < p.rounds →
      (((p.other_last +ℤ int_max (pos 0) p.other_by) +ℤ pos 3) +ℤ pos (k * loss)) ≤ℤ (p.first +ℤ int_min (pos 0) p.by)

-- after k rounds one of the two has passed the other
abbrev pub IsOnePast : Lane → Lane → ℕ → Type 0
IsOnePast a b k = IsPassed (passing a b k) ⊎ IsPassed (passing b a k)

-- for k rounds one of the two is still ahead of the other
abbrev pub IsOneAhead : Lane → Lane → ℕ → Type 0
IsOneAhead a b k = IsYetAhead (passing a b k) ⊎ IsYetAhead (passing b a k)

-- the boxes of two sets, and the move that each makes in a round
pub record Watch : Type 0 where
  pub hull : Hull
  pub by : Cell
  pub other_hull : Hull
  pub other_by : Cell

-- the lane of a box that moves by d in a round, from left to right
abbrev pub columns : Hull → Cell → Lane
columns h d = record { first = h.left; last = h.right; by = d.0 }

-- the lane of a box that moves by d in a round, downwards
abbrev pub rows : Hull → Cell → Lane
rows h d = record { first = h.top; last = h.bottom; by = d.1 }

-- After the rounds one of the two has passed the other along an axis, or both move equally far and the number of rounds is one.
abbrev pub IsPastAfter : Watch → ℕ → Type 0
IsPastAfter w k =
    IsOnePast (columns w.hull w.by) (columns w.other_hull w.other_by) k
    ⊎ (IsOnePast (rows w.hull w.by) (rows w.other_hull w.other_by) k ⊎ ((w.by ≡ w.other_by) × (k ≡ 1)))

-- In each of the rounds one of the two is still ahead of the other along an axis, or the number of rounds is zero.
abbrev pub IsAheadBefore : Watch → ℕ → Type 0
IsAheadBefore w k =
    IsOneAhead (columns w.hull w.by) (columns w.other_hull w.other_by) k
    ⊎ (IsOneAhead (rows w.hull w.by) (rows w.other_hull w.other_by) k ⊎ (k ≡ 0))

-- the two are apart in each generation from m to before n
abbrev pub AreApartBetween : Rule → ℕ → ℕ → Generation → Generation → Type 0
AreApartBetween R m n P Q = (t : ℕ) → m ≤ t → t < n → AreApart (generation R P t) (generation R Q t)
