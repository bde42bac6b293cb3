-- Numbers and steps that fit machine integers.
use Rattle.std.specs.Prelude.{◌≢◌, ℕ, ◌*◌, ◌≤◌, ◌^◌, ℤ, pos, neg_ℤ, ◌≤ℤ◌}
use Rattle.life_growth.specs.Meeting.Sums.{Step}

-- from -n to n
pub record IsWithin (n : ℕ) (x : ℤ) : Type 0 where
  pub low : neg_ℤ (pos n) ≤ℤ x
  pub high : x ≤ℤ pos n

-- each coordinate of the step is from -n to n
pub record IsShort (n : ℕ) (u : Step) : Type 0 where
  pub time : IsWithin n u.0
  pub across : IsWithin n u.1.0
  pub along : IsWithin n u.1.1

-- two steps whose product fits a machine integer
pub record AreShort (u v : Step) : Type 0 where
  pub first : ℕ
  pub second : ℕ
  pub one : IsShort first u
  pub other : IsShort second v
  pub fits : first * second ≤ 2 ^ 122

-- the most generations that a way may take, and the furthest move along an axis
abbrev pub way_limit : ℕ
way_limit = 10000

-- a step that takes time, forward or back, and goes neither too long nor too far
pub record IsStride (u : Step) : Type 0 where
  pub short : IsShort way_limit u
  pub later : u.0 ≢ pos 0

-- the distance of a start, along each axis and in time, up to which one step, two, three and four can be made from it
abbrev pub one_start : ℕ
one_start = 2 ^ 126

abbrev pub two_start : ℕ
two_start = 368 * 10 ^ 27

abbrev pub three_start : ℕ
three_start = 61 * 10 ^ 15

abbrev pub four_start : ℕ
four_start = 4194304

-- the number of times that a step may be made from there
abbrev pub count_limit : ℕ
count_limit = 737 * 10 ^ 31

-- the number of times that the first of three steps may be made from the start of three
abbrev pub three_count : ℕ
three_count = 367 * 10 ^ 23

-- the greatest coordinate of a cross product
abbrev pub cross_limit : ℕ
cross_limit = 200000000
