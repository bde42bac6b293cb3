-- The cells beside each cell of a row: the row shifted by one to either side, and the cells beyond both edges.
use Rattle.std.proofs.Common.{◌≡◌, ℕ, ◌+◌, ◌*◌, ◌<◌, ◌≤◌, ◌%◌, ◌/◌, ◌^◌, bit_and, bit_or, bit_xor, min, max, sym, ap, ◌∙◌, ⊎_elim, arith}
use Rattle.std.specs.Int.{bit_at}
use Rattle.std.proofs.lemmas.Bool.{cases_lt}
use Rattle.std.proofs.lemmas.Nat.Bits.{bit_at_and, bit_at_or, bit_at_xor, bit_at-lt, bit_at-zero, bit_at_above, bit_at_cat_low}
use Rattle.life_plane.specs.Bits.{wide_row}
use Rattle.life_plane.proofs.Strips.{bit_at_mod, west_at, east_at}

-- the cell beyond the western edge affects only column 0
one_bit : (west : ℕ) → west < 2 ^ 64 → west / 2 ^ 63 < 2 ^ 1
one_bit west fits = omega arith

no_west : (west x : ℕ) → west < 2 ^ 64 → 0 < x → bit_at (west / 2 ^ 63) x ≡ 0
no_west west x fits later = bit_at_above (west / 2 ^ 63) 1 x (one_bit west fits) later

-- the cell beyond the eastern edge affects only column 63
no_east : (east x : ℕ) → x < 63 → bit_at (east * 2 ^ 63 % 2 ^ 64) x ≡ 0
no_east east x below =
    bit_at_mod (east * 2 ^ 63) 64 x (omega arith)
    ∙ ap (λ n. bit_at n x) (omega arith)
    ∙ bit_at_cat_low east 63 0 x below
    ∙ bit_at-zero x

-- there the shifted rows have no bit
no_left : (row : ℕ) → bit_at (row * 2 % 2 ^ 64) 0 ≡ 0
no_left row = omega arith

below_top : (row : ℕ) → row < 2 ^ 64 → row / 2 < 2 ^ 63
below_top row fits = omega arith

no_right : (row : ℕ) → row < 2 ^ 64 → bit_at (row / 2) 63 ≡ 0
no_right row fits = bit_at_above (row / 2) 63 63 (below_top row fits) (omega arith)

-- in each column at most one of each pair is set
at_first : (l r w e a b : ℕ) → max l w ≡ a → max r e ≡ b → l ≡ 0 → e ≡ 0 → l + r + max w e ≡ a + b
at_first l r w e a b p q l_none e_none = omega arith

at_last : (l r w e a b : ℕ) → max l w ≡ a → max r e ≡ b → w ≡ 0 → r ≡ 0 → l + r + max w e ≡ a + b
at_last l r w e a b p q w_none r_none = omega arith

between : (l r w e a b : ℕ) → max l w ≡ a → max r e ≡ b → w ≡ 0 → e ≡ 0 → l + r + max w e ≡ a + b
between l r w e a b p q w_none e_none = omega arith

module _ (west row east : ℕ) (west_fits : west < 2 ^ 64) (row_fits : row < 2 ^ 64) where
  abbrev l : ℕ → ℕ
  l x = bit_at (row * 2 % 2 ^ 64) x

  abbrev r : ℕ → ℕ
  r x = bit_at (row / 2) x

  abbrev w : ℕ → ℕ
  w x = bit_at (west / 2 ^ 63) x

  abbrev e : ℕ → ℕ
  e x = bit_at (east * 2 ^ 63 % 2 ^ 64) x

  left_is : (x : ℕ) → x < 64 → max (l x) (w x) ≡ bit_at (wide_row west row east) (x + 63)
  left_is x below = sym (bit_at_or (row * 2 % 2 ^ 64) (west / 2 ^ 63) x) ∙ west_at west row east x west_fits below

  right_is : (x : ℕ) → x < 64 → max (r x) (e x) ≡ bit_at (wide_row west row east) (x + 65)
  right_is x below = sym (bit_at_or (row / 2) (east * 2 ^ 63 % 2 ^ 64) x) ∙ east_at west row east x west_fits row_fits below

  parts : (x : ℕ) → x < 64 → l x + r x + max (w x) (e x) ≡ bit_at (wide_row west row east) (x + 63) + bit_at (wide_row west row east) (x + 65)
  parts x below =
      ⊎_elim
      (λ (inside : x < 63).
      ⊎_elim
      (λ (first : x < 1).
      let is : 0 ≡ x = omega arith in
      at_first (l x) (r x) (w x) (e x) _ _ (left_is x below) (right_is x below) (sym (ap l is) ∙ no_left row) (no_east east x inside))
      (λ (later : 1 ≤ x). between (l x) (r x) (w x) (e x) _ _ (left_is x below) (right_is x below) (no_west west x west_fits later) (no_east east x inside))
      (cases_lt x 1))
      (λ (edge : 63 ≤ x).
      let is : 63 ≡ x = omega arith in
      at_last (l x) (r x) (w x) (e x) _ _ (left_is x below) (right_is x below) (no_west west x west_fits (omega arith)) (sym (ap r is) ∙ no_right row row_fits))
      (cases_lt x 63)

  -- the cells beside each cell
  pub beside_at : (x : ℕ) → x < 64 →
      bit_at (row * 2 % 2 ^ 64) x + bit_at (row / 2) x + bit_at (bit_or (west / 2 ^ 63) (east * 2 ^ 63 % 2 ^ 64)) x
      ≡ bit_at (wide_row west row east) (x + 63) + bit_at (wide_row west row east) (x + 65)
  beside_at x below = ap (λ n. l x + r x + n) (bit_at_or (west / 2 ^ 63) (east * 2 ^ 63 % 2 ^ 64) x) ∙ parts x below

-- a bit added to a number that is at most 2
one_more : (p q c a b : ℕ) → p < 2 → q < 2 → c < 2 → a < 2 → b < 2 → p + 2 * q ≡ a + b → (p + c) % 2 + 2 * max q (min p c) ≡ a + c + b
one_more p q c a b ps qs cs as_ bs is = omega arith

pub with_itself : (ones twos here a b x : ℕ) → a < 2 → b < 2 → bit_at ones x + 2 * bit_at twos x ≡ a + b →
    bit_at (bit_xor ones here) x + 2 * bit_at (bit_or twos (bit_and ones here)) x ≡ a + bit_at here x + b
with_itself ones twos here a b x as_ bs is =
    rw (bit_at_xor ones here x, bit_at_or twos (bit_and ones here) x, bit_at_and ones here x)
    (one_more _ _ _ a b (bit_at-lt ones x) (bit_at-lt twos x) (bit_at-lt here x) as_ bs is)
