-- The nine tiles around a place show the plane from 64 columns west to 127 columns east of it, and so the next generation.
use Rattle.std.proofs.Common.{◌≡◌, ℕ, ℤ, pos, neg_ℤ, Bool, true, false, cond, List, [], ◌∷◌, count_by, refl, ◌+ℤ◌, ◌-ℤ◌, ◌+◌, ◌-◌, ◌<◌, ◌≤◌, ◌≤ℤ◌, ⊎_elim, slice_index, sym, ap, ◌∙◌, arith}
use Rattle.std.specs.Int.{bit_at}
use Rattle.std.proofs.lemmas.Int.{ints}
use lib.Signed.{le_z_yes}
use Rattle.std.proofs.lemmas.Bool.{cases_lt}
use Rattle.std.proofs.lemmas.List.Sums.{sum_by-cons}
use Rattle.life_model.specs.Rule.{Rule, born, stays}
use Rattle.life_model.specs.Cell.{Cell, around}
use Rattle.life_model.specs.Generation.{Generation, contains}
use Rattle.life_model.specs.Evolution.{count_at, lives, next}
use Rattle.life_model.proofs.Evolution.{contains-next}
use Rattle.life_plane.specs.declared.tile.Tile.{Tile}
use Rattle.life_plane.specs.Bits.{next_state}
use Rattle.life_plane.specs.Area.{Nine, three_wide, area_cell, sum_around, tile_cell, next_in_area}
use Rattle.life_plane.specs.Flags.{as_bit}
use Rattle.life_plane.proofs.Strips.{strip_low, strip_middle, strip_high}
use Rattle.life_plane.proofs.Joining.{area_first, area_second, area_third}
use Rattle.life_slots.specs.Places.{start_at}
use Rattle.life_slots.specs.Cells.{state_at}

-- the nine tiles at and around a place
abbrev pub nine_around : (ℤ → ℤ → Tile) → ℤ → ℤ → Nine
nine_around at column row = record {
  north_west = at (column -ℤ pos 1) (row -ℤ pos 1);
  north = at column (row -ℤ pos 1);
  north_east = at (column +ℤ pos 1) (row -ℤ pos 1);
  west = at (column -ℤ pos 1) row;
  here = at column row;
  east = at (column +ℤ pos 1) row;
  south_west = at (column -ℤ pos 1) (row +ℤ pos 1);
  south = at column (row +ℤ pos 1);
  south_east = at (column +ℤ pos 1) (row +ℤ pos 1);
}

-- the tiles at each place show a generation
pub record Shows (G : Generation) (at : ℤ → ℤ → Tile) : Type 0 where
  pub state : (column row : ℤ) (x y : ℕ) → x < 64 → y < 64 → state_at G (start_at column +ℤ pos x) (start_at row +ℤ pos y) ≡ tile_cell (at column row) x y

pub bit_is : (b : Bool) → (cond b 1 0) ≡ as_bit b
bit_is true = refl
bit_is false = refl

-- how many of some cells are live
abbrev pub bits_of : (Cell → Bool) → List Cell → ℕ
bits_of live [] = 0
bits_of live (c ∷ cs) = as_bit (live c) + bits_of live cs

counted : (live : Cell → Bool) (cs : List Cell) → count_by live cs ≡ bits_of live cs
counted live [] = refl
counted live (c ∷ cs) = sum_by-cons (λ (d : Cell). cond (live d) 1 0) c cs ∙ (λ i. bit_is (live c) i + counted live cs i)

pub regrouped : (a b c d e f g h a' b' c' d' e' f' g' h' : ℕ) → a ≡ a' → b ≡ b' → c ≡ c' → d ≡ d' → e ≡ e' → f ≡ f' → g ≡ g' → h ≡ h' →
    a + (b + (c + (d + (e + (f + (g + (h + 0))))))) ≡ a' + b' + c' + d' + e' + f' + g' + h'
regrouped a b c d e f g h a' b' c' d' e' f' g' h' p1 p2 p3 p4 p5 p6 p7 p8 = omega arith

pub lives_bit : (rule : Rule) (live : Cell → Bool) (c : Cell) → as_bit (lives rule live c) ≡ next_state rule (as_bit (live c)) (count_at live c)
unfolding lives
lives_bit rule live c =
    elim (live c) as (λ b. as_bit (cond b (stays rule (count_at live c)) (born rule (count_at live c))) ≡ next_state rule (as_bit b) (count_at live c)) [
      | true ↦ refl
      | false ↦ refl
    ]

-- the state in the next generation, by the states of the cell and of those around it
pub state_next : (rule : Rule) (G : Generation) (c : Cell) → state_at (next rule G) c.0 c.1 ≡ next_state rule (state_at G c.0 c.1) (bits_of (contains G) (around c))
state_next rule G c =
    ap as_bit (contains-next rule G c)
    ∙ lives_bit rule (contains G) c
    ∙ ap (next_state rule (as_bit (contains G c))) (counted (contains G) (around c))

module _ (G : Generation) (at : ℤ → ℤ → Tile) (shows : Shows G at) where
  -- a column of three tiles side by side
  three_tiles : (column row : ℤ) (a y : ℕ) (across down : ℤ) → a < 192 → y < 64 →
      across ≡ ((start_at column -ℤ pos 64) +ℤ pos a) → down ≡ (start_at row +ℤ pos y) →
      state_at G across down ≡ bit_at (three_wide (at (column -ℤ pos 1) row) (at column row) (at (column +ℤ pos 1) row) y) a
  three_tiles column row a y across down wide high across_is down_is =
      let west : Tile = at (column -ℤ pos 1) row in
      let here : Tile = at column row in
      let east : Tile = at (column +ℤ pos 1) row in
      ⊎_elim
      (λ (first : a < 64).
      let e : across ≡ (start_at (column -ℤ pos 1) +ℤ pos a) = omega (arith, ints) in
      (λ i. state_at G (e i) (down_is i))
      ∙ shows.state (column -ℤ pos 1) row a y first high
      ∙ sym (strip_low (slice_index west.rows y) (slice_index here.rows y) (slice_index east.rows y) a first))
      (λ (past_first : 64 ≤ a).
      ⊎_elim
      (λ (second : a < 128).
      let inside : a - 64 < 64 = omega arith in
      let e : across ≡ (start_at column +ℤ pos (a - 64)) = omega (arith, ints) in
      let back : a - 64 + 64 ≡ a = omega arith in
      (λ i. state_at G (e i) (down_is i))
      ∙ shows.state column row (a - 64) y inside high
      ∙ sym (strip_middle (slice_index west.rows y) (slice_index here.rows y) (slice_index east.rows y) (a - 64) inside)
      ∙ ap (bit_at (three_wide west here east y)) back)
      (λ (past_second : 128 ≤ a).
      let inside : a - 128 < 64 = omega arith in
      let e : across ≡ (start_at (column +ℤ pos 1) +ℤ pos (a - 128)) = omega (arith, ints) in
      let back : a - 128 + 128 ≡ a = omega arith in
      (λ i. state_at G (e i) (down_is i))
      ∙ shows.state (column +ℤ pos 1) row (a - 128) y inside high
      ∙ sym (strip_high (slice_index west.rows y) (slice_index here.rows y) (slice_index east.rows y) (a - 128) inside)
      ∙ ap (bit_at (three_wide west here east y)) back)
      (cases_lt a 128))
      (cases_lt a 64)

  window : (column row : ℤ) (a b : ℕ) (across down : ℤ) → a < 192 → b < 192 →
      across ≡ ((start_at column -ℤ pos 64) +ℤ pos a) → down ≡ ((start_at row -ℤ pos 64) +ℤ pos b) →
      state_at G across down ≡ area_cell (nine_around at column row) a b
  window column row a b across down wide high across_is down_is =
      ⊎_elim
      (λ (first : b < 64).
      let e : down ≡ (start_at (row -ℤ pos 1) +ℤ pos b) = omega (arith, ints) in
      three_tiles column (row -ℤ pos 1) a b across down wide first across_is e
      ∙ sym (ap (λ w. bit_at w a) (area_first (nine_around at column row) b first)))
      (λ (past_first : 64 ≤ b).
      ⊎_elim
      (λ (second : b < 128).
      let inside : b - 64 < 64 = omega arith in
      let e : down ≡ (start_at row +ℤ pos (b - 64)) = omega (arith, ints) in
      three_tiles column row a (b - 64) across down wide inside across_is e
      ∙ sym (ap (λ w. bit_at w a) (area_second (nine_around at column row) b past_first second)))
      (λ (past_second : 128 ≤ b).
      let inside : b - 128 < 64 = omega arith in
      let e : down ≡ (start_at (row +ℤ pos 1) +ℤ pos (b - 128)) = omega (arith, ints) in
      three_tiles column (row +ℤ pos 1) a (b - 128) across down wide inside across_is e
      ∙ sym (ap (λ w. bit_at w a) (area_third (nine_around at column row) b past_second)))
      (cases_lt b 128))
      (cases_lt b 64)

  counts : (column row : ℤ) (x y : ℕ) (across down : ℤ) → x < 64 → y < 64 →
      across ≡ (start_at column +ℤ pos x) → down ≡ (start_at row +ℤ pos y) →
      bits_of (contains G) (around (across, down)) ≡ sum_around (area_cell (nine_around at column row)) (x + 63) (y + 63)
  counts column row x y across down p q across_is down_is =
      let look = window column row in
      regrouped _ _ _ _ _ _ _ _ _ _ _ _ _ _ _ _
      (look (x + 63) (y + 63) (across +ℤ neg_ℤ (pos 1)) (down +ℤ neg_ℤ (pos 1)) (omega arith) (omega arith) (omega (arith, ints)) (omega (arith, ints)))
      (look (x + 63 + 1) (y + 63) (across +ℤ pos 0) (down +ℤ neg_ℤ (pos 1)) (omega arith) (omega arith) (omega (arith, ints)) (omega (arith, ints)))
      (look (x + 63 + 2) (y + 63) (across +ℤ pos 1) (down +ℤ neg_ℤ (pos 1)) (omega arith) (omega arith) (omega (arith, ints)) (omega (arith, ints)))
      (look (x + 63) (y + 63 + 1) (across +ℤ neg_ℤ (pos 1)) (down +ℤ pos 0) (omega arith) (omega arith) (omega (arith, ints)) (omega (arith, ints)))
      (look (x + 63 + 2) (y + 63 + 1) (across +ℤ pos 1) (down +ℤ pos 0) (omega arith) (omega arith) (omega (arith, ints)) (omega (arith, ints)))
      (look (x + 63) (y + 63 + 2) (across +ℤ neg_ℤ (pos 1)) (down +ℤ pos 1) (omega arith) (omega arith) (omega (arith, ints)) (omega (arith, ints)))
      (look (x + 63 + 1) (y + 63 + 2) (across +ℤ pos 0) (down +ℤ pos 1) (omega arith) (omega arith) (omega (arith, ints)) (omega (arith, ints)))
      (look (x + 63 + 2) (y + 63 + 2) (across +ℤ pos 1) (down +ℤ pos 1) (omega arith) (omega arith) (omega (arith, ints)) (omega (arith, ints)))

  -- the next generation of the cells of a place is that of the nine tiles around
  pub next_shown : (rule : Rule) (column row : ℤ) (x y : ℕ) → x < 64 → y < 64 →
      next_in_area rule (nine_around at column row) x y ≡ state_at (next rule G) (start_at column +ℤ pos x) (start_at row +ℤ pos y)
  next_shown rule column row x y p q =
      let wide : x + 64 < 192 = omega arith in
      let high : y + 64 < 192 = omega arith in
      let across : (start_at column +ℤ pos x) ≡ ((start_at column -ℤ pos 64) +ℤ pos (x + 64)) = omega (arith, ints) in
      let down : (start_at row +ℤ pos y) ≡ ((start_at row -ℤ pos 64) +ℤ pos (y + 64)) = omega (arith, ints) in
      sym
      (state_next rule G (start_at column +ℤ pos x, start_at row +ℤ pos y)
      ∙ (λ i. next_state rule
      (window column row (x + 64) (y + 64) (start_at column +ℤ pos x) (start_at row +ℤ pos y) wide high across down i)
      (counts column row x y (start_at column +ℤ pos x) (start_at row +ℤ pos y) p q refl refl i)))

-- the next state of a cell is the same where the states in and around it are
pub next_alike : (rule : Rule) (G H : Generation) (X Y : ℤ) →
    ((a b : ℤ) → (X -ℤ pos 1) ≤ℤ a → a ≤ℤ (X +ℤ pos 1) → (Y -ℤ pos 1) ≤ℤ b → b ≤ℤ (Y +ℤ pos 1) → state_at G a b ≡ state_at H a b) →
    state_at (next rule G) X Y ≡ state_at (next rule H) X Y
next_alike rule G H X Y same =
    let at : (s t : ℤ) → neg_ℤ (pos 1) ≤ℤ s → s ≤ℤ pos 1 → neg_ℤ (pos 1) ≤ℤ t → t ≤ℤ pos 1 → state_at G (X +ℤ s) (Y +ℤ t) ≡ state_at H (X +ℤ s) (Y +ℤ t) =
    λ s t s1 s2 t1 t2. same (X +ℤ s) (Y +ℤ t) (omega (arith, ints)) (omega (arith, ints)) (omega (arith, ints)) (omega (arith, ints)) in
    state_next rule G (X, Y)
    ∙ (λ i. next_state rule (same X Y (omega (arith, ints)) (omega (arith, ints)) (omega (arith, ints)) (omega (arith, ints)) i)
    (eight _ _ _ _ _ _ _ _ _ _ _ _ _ _ _ _
    (at (neg_ℤ (pos 1)) (neg_ℤ (pos 1)) (le_z_yes tt) (le_z_yes tt) (le_z_yes tt) (le_z_yes tt))
    (at (pos 0) (neg_ℤ (pos 1)) (le_z_yes tt) (le_z_yes tt) (le_z_yes tt) (le_z_yes tt))
    (at (pos 1) (neg_ℤ (pos 1)) (le_z_yes tt) (le_z_yes tt) (le_z_yes tt) (le_z_yes tt))
    (at (neg_ℤ (pos 1)) (pos 0) (le_z_yes tt) (le_z_yes tt) (le_z_yes tt) (le_z_yes tt))
    (at (pos 1) (pos 0) (le_z_yes tt) (le_z_yes tt) (le_z_yes tt) (le_z_yes tt))
    (at (neg_ℤ (pos 1)) (pos 1) (le_z_yes tt) (le_z_yes tt) (le_z_yes tt) (le_z_yes tt))
    (at (pos 0) (pos 1) (le_z_yes tt) (le_z_yes tt) (le_z_yes tt) (le_z_yes tt))
    (at (pos 1) (pos 1) (le_z_yes tt) (le_z_yes tt) (le_z_yes tt) (le_z_yes tt)) i))
    ∙ sym (state_next rule H (X, Y))
  where
    eight : (a b c d e f g h a' b' c' d' e' f' g' h' : ℕ) → a ≡ a' → b ≡ b' → c ≡ c' → d ≡ d' → e ≡ e' → f ≡ f' → g ≡ g' → h ≡ h' →
        a + (b + (c + (d + (e + (f + (g + (h + 0))))))) ≡ a' + (b' + (c' + (d' + (e' + (f' + (g' + (h' + 0)))))))
    eight a b c d e f g h a' b' c' d' e' f' g' h' p1 p2 p3 p4 p5 p6 p7 p8 = omega arith
