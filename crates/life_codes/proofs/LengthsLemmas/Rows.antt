-- Rows as cells are marked in them, and strips of five of them.
use Rattle.std.proofs.Common.{◌≡◌, ◌≢◌, ℕ, ◌+◌, ◌-◌, ◌*◌, ◌%◌, ◌^◌, ◌<◌, ◌≤◌, ℤ, pos, ◌-ℤ◌, max, Bool, true, false, ◌||◌, List, [], ◌∷◌, ◌++◌, map, length, get_or, set, inl, inr, if◌then◌else◌, w64, take, subst, sym, refl, ap, ◌∙◌, arith}
use Rattle.std.specs.Prelude.{All}
use Rattle.std.specs.Int.{bit_at}
use Rattle.std.specs.Int.Bits.{bit_or}
use Rattle.std.proofs.lemmas.Bool.{or_right}
use Rattle.std.proofs.lemmas.Bool.Decides.{eqb_tells}
use Rattle.std.proofs.lemmas.Int.{ints}
use Rattle.std.proofs.lemmas.List.{get_or-set_other, get_or-set_same, length-set, map-append, take_more}
use Rattle.std.proofs.lemmas.List.Folds.{list_any-append}
use Rattle.std.proofs.lemmas.Nat.Bits.{bit_at-zero, bit_at_or, bit_at_set_same, bit_at_set_other}
use Rattle.std.proofs.Math.Bool.{or-false}
use Rattle.life_model.specs.Cell.{Cell, same_cell, origin}
use Rattle.life_model.proofs.Cells.{cells_differ, same_cell-is}
use Rattle.life_model.proofs.Symmetries.{AreInverse, same_cell-forth}
use Rattle.life_model.proofs.Tests.{list_any-map, list_any-alike}
use Rattle.life_model.proofs.Numbers.{max_zero, zero_max}
use Rattle.life_cells.proofs.Weights.{live_value}
use Rattle.life_codes.specs.Lengths.Words.{AreZeroTogether, HoldsRows, AreWithinColumns, five_rows, is_at}
use Rattle.life_codes.proofs.LengthsLemmas.ColumnMarks.{HoldsMarks, upside_down}

-- ---- one cell after another

dark : (words : List ℕ) → All (λ w. w ≡ 0) words → (k x : ℕ) → k < length words → bit_at (get_or words k 0) x ≡ 0
dark words none k x h = ap (λ w. bit_at w x) (none k 0 h) ∙ bit_at-zero x

pub nothing_in_rows : (rows : List ℕ) → All (λ w. w ≡ 0) rows → HoldsRows rows []
nothing_in_rows rows none y x h = dark rows none y x h

pub nothing_within : (words : List ℕ) (wide : ℕ) → All (λ w. w ≡ 0) words → AreWithinColumns words wide
nothing_within words wide none k x h l = dark words none k x h

module _ (ds : List Cell) (one : Cell) (x : ℕ) (z : ℤ) where
  pub at_last : same_cell (pos x, z) one ≡ true → is_at (ds ++ one ∷ []) x z ≡ true
  at_last e = list_any-append (same_cell (pos x, z)) ds (one ∷ []) ∙ (λ i. is_at ds x z || (e i || false)) ∙ or_right (is_at ds x z) true refl

  pub not_at_last : same_cell (pos x, z) one ≡ false → is_at (ds ++ one ∷ []) x z ≡ is_at ds x z
  not_at_last e = list_any-append (same_cell (pos x, z)) ds (one ∷ []) ∙ (λ i. is_at ds x z || (e i || false)) ∙ or-false (is_at ds x z)

module _ (ds : List Cell) (rows : List ℕ) (p r : ℕ) (column : p < 64) (room : length rows ≡ 69) (row : r < 64) where
  abbrev marked : ℕ
  marked = bit_or (get_or rows (r + 4) 0) (1 * 2 ^ p % 2 ^ 64)

  abbrev one : Cell
  one = (pos p, pos r)

  bit_here : (y x : ℕ) → y ≡ r + 4 → bit_at (get_or (set rows (r + 4) marked) y 0) x ≡ bit_at marked x
  bit_here y x e = ap (λ n. bit_at (get_or (set rows (r + 4) marked) n 0) x) e ∙ ap (λ w. bit_at w x) (get_or-set_same rows (r + 4) marked 0 (omega arith))

  bit_other : (y x : ℕ) → y ≢ r + 4 → bit_at (get_or (set rows (r + 4) marked) y 0) x ≡ bit_at (get_or rows y 0) x
  bit_other y x e = ap (λ w. bit_at w x) (get_or-set_other rows (r + 4) y marked 0 e)

  bit_beside : (y x : ℕ) → y ≡ r + 4 → x ≢ p → bit_at (get_or (set rows (r + 4) marked) y 0) x ≡ bit_at (get_or rows y 0) x
  bit_beside y x e f = bit_here y x e ∙ bit_at_set_other w64 (get_or rows (r + 4) 0) p column x f ∙ ap (λ n. bit_at (get_or rows n 0) x) (sym e)

  pub rows_more : HoldsRows rows ds → HoldsRows (set rows (r + 4) marked) (ds ++ one ∷ [])
  rows_more held y x h =
      let long = length-set rows (r + 4) marked in
      let known : y < length rows = omega arith in
      let z = pos y -ℤ pos 4 in
      let old : same_cell (pos x, z) one ≡ false → bit_at (get_or rows y 0) x ≡ (if is_at (ds ++ one ∷ []) x z then 1 else 0) = λ e. held y x known ∙ ap (λ t. if t then 1 else 0) (sym (not_at_last ds one x z e)) in
      elim (eqb_tells y (r + 4)) [
        | inl e ↦
            elim (eqb_tells x p) [
              | inl f ↦
                  let here : z ≡ pos r = let same = e.1 in omega (arith, ints) in
                  let at : ◌≡◌ {A = Cell} (pos x, z) one = λ i. (pos (f.1 i), here i) in
                  bit_here y x e.1 ∙ ap (bit_at marked) f.1 ∙ bit_at_set_same w64 (get_or rows (r + 4) 0) p column
                  ∙ ap (λ t. if t then 1 else 0) (sym (at_last ds one x z ((same_cell-is (pos x, z) one).1 at)))
              | inr f ↦
                  bit_beside y x e.1 f.1 ∙ old (cells_differ (pos x, z) one (λ l. f.1 (let across = ap (λ q. q.0) l in omega (arith, ints))))
            ]
        | inr e ↦
            bit_other y x e.1 ∙ old (cells_differ (pos x, z) one (λ l. e.1 (let down = ap (λ q. q.1) l in omega (arith, ints))))
      ]

  pub within_more : (wide : ℕ) → p < wide → AreWithinColumns rows wide → AreWithinColumns (set rows (r + 4) marked) wide
  within_more wide inside held y x h l =
      let long = length-set rows (r + 4) marked in
      let known : y < length rows = omega arith in
      elim (eqb_tells y (r + 4)) [
        | inl e ↦ bit_beside y x e.1 (λ f. omega arith) ∙ held y x known l
        | inr e ↦ bit_other y x e.1 ∙ held y x known l
      ]

-- ---- five rows together

zero_if : (t : Bool) (n : ℕ) → 0 < n → AreZeroTogether (if t then 1 else 0) (if t then n else 0)
zero_if true n h = (λ e. absurd (omega arith), λ e. absurd (omega arith))
zero_if false n h = (λ e. refl, λ e. refl)

five_together : (a b c d e v w x y z n : ℕ) → AreZeroTogether a v → AreZeroTogether b w → AreZeroTogether c x → AreZeroTogether d y → AreZeroTogether e z → n ≡ v + w + x + y + z → AreZeroTogether (max (max (max (max a b) c) d) e) n
five_together a b c d e v w x y z n one two three four five sum = (
  λ none.
      let abcd = zero_max (max (max (max a b) c) d) e none in
      let abc = zero_max (max (max a b) c) d abcd.0 in
      let ab = zero_max (max a b) c abc.0 in
      let first = zero_max a b ab.0 in
      let zero_v = one.0 first.0 in
      let zero_w = two.0 first.1 in
      let zero_x = three.0 ab.1 in
      let zero_y = four.0 abc.1 in
      let zero_z = five.0 abcd.1 in
      omega arith,
  λ none.
      max_zero _ _ (max_zero _ _ (max_zero _ _ (max_zero _ _ (one.1 (omega arith)) (two.1 (omega arith))) (three.1 (omega arith))) (four.1 (omega arith))) (five.1 (omega arith)),
)

module _ (rows : List ℕ) (first x : ℕ) where
  abbrev bit_of : ℕ → ℕ
  bit_of y = bit_at (get_or rows y 0) x

  five_bits : bit_at (five_rows rows first) x ≡ max (max (max (max (bit_of first) (bit_of (first + 1))) (bit_of (first + 2))) (bit_of (first + 3))) (bit_of (first + 4))
  five_bits =
      bit_at_or _ (get_or rows (first + 4) 0) x
      ∙ ap (λ n. max n (bit_of (first + 4))) (bit_at_or _ (get_or rows (first + 3) 0) x
      ∙ ap (λ n. max n (bit_of (first + 3))) (bit_at_or _ (get_or rows (first + 2) 0) x
      ∙ ap (λ n. max n (bit_of (first + 2))) (bit_at_or (get_or rows first 0) (get_or rows (first + 1) 0) x)))

  pub five_within : (wide : ℕ) → first + 5 ≤ length rows → AreWithinColumns rows wide → wide ≤ x → bit_at (five_rows rows first) x ≡ 0
  five_within wide room held l =
      five_bits
      ∙ max_zero _ _ (max_zero _ _ (max_zero _ _ (max_zero _ _ (held first x (omega arith) l) (held (first + 1) x (omega arith) l)) (held (first + 2) x (omega arith) l)) (held (first + 3) x (omega arith) l)) (held (first + 4) x (omega arith) l)

  module _ (t : ℕ → Bool) where
    live_parts : live_value t ≡ (if t 0 then 1 else 0) + (if t 1 then 2 else 0) + (if t 2 then 4 else 0) + (if t 3 then 8 else 0) + (if t 4 then 16 else 0)
    live_parts = omega arith

    one_of : (y j n : ℕ) → 0 < n → bit_of y ≡ (if t j then 1 else 0) → AreZeroTogether (bit_of y) (if t j then n else 0)
    one_of y j n some e = let both = zero_if (t j) n some in (λ h. both.0 (sym e ∙ h), λ h. e ∙ both.1 h)

    together_down : (bit_of first ≡ (if t 0 then 1 else 0)) → ((j : ℕ) → j < 5 → bit_of (first + j) ≡ (if t j then 1 else 0)) → AreZeroTogether (bit_at (five_rows rows first) x) (live_value t)
    together_down at e =
        let all = five_together _ _ _ _ _ _ _ _ _ _ (live_value t) (one_of first 0 1 (omega arith) at) (one_of (first + 1) 1 2 (omega arith) (e 1 (omega arith))) (one_of (first + 2) 2 4 (omega arith) (e 2 (omega arith))) (one_of (first + 3) 3 8 (omega arith) (e 3 (omega arith))) (one_of (first + 4) 4 16 (omega arith) (e 4 (omega arith))) live_parts in
        (λ h. all.0 (sym five_bits ∙ h), λ h. five_bits ∙ all.1 h)

    together_up : (bit_of first ≡ (if t 4 then 1 else 0)) → ((j : ℕ) → j < 5 → bit_of (first + j) ≡ (if t (4 - j) then 1 else 0)) → AreZeroTogether (bit_at (five_rows rows first) x) (live_value t)
    together_up at e =
        let all = five_together _ _ _ _ _ _ _ _ _ _ (live_value t) (one_of first 4 16 (omega arith) at) (one_of (first + 1) 3 8 (omega arith) (e 1 (omega arith))) (one_of (first + 2) 2 4 (omega arith) (e 2 (omega arith))) (one_of (first + 3) 1 2 (omega arith) (e 3 (omega arith))) (one_of (first + 4) 0 1 (omega arith) (e 4 (omega arith))) (let parts = live_parts in omega arith) in
        (λ h. all.0 (sym five_bits ∙ h), λ h. five_bits ∙ all.1 h)

-- ---- strips, from the top and from the bottom

down_at : (k j : ℕ) → pos (4 + 5 * k + j) -ℤ pos 4 ≡ pos (5 * k + j)
down_at k j = omega (arith, ints)

pub marks_down : (rows : List ℕ) (strips : ℕ) (cells : List Cell) → length rows ≡ 69 → strips ≤ 13 → HoldsRows rows cells → HoldsMarks (λ k. five_rows rows (4 + 5 * k)) strips cells
marks_down rows strips cells room few held k x h =
    let first = 4 + 5 * k in
    let t = λ (j : ℕ). is_at cells x (pos (5 * k + j)) in
    let row : (j : ℕ) → j < 5 → bit_at (get_or rows (first + j) 0) x ≡ (if t j then 1 else 0) = λ j l. held (first + j) x (omega arith) ∙ ap (λ z. if is_at cells x z then 1 else 0) (down_at k j) in
    let at : first ≡ first + 0 = omega arith in
    together_down rows first x t (ap (λ n. bit_at (get_or rows n 0) x) at ∙ row 0 (omega arith)) row

twice : (high : ℕ) (z : ℤ) → pos high -ℤ pos 1 -ℤ (pos high -ℤ pos 1 -ℤ z) ≡ z
twice high z = omega (arith, ints)

down_inverse : (high : ℕ) → AreInverse (upside_down high) (upside_down high)
down_inverse high = record { there = λ c i. (c.0, twice high c.1 i); here = λ q i. (q.0, twice high q.1 i) }

up_at : (high k j : ℕ) → 5 * k + 1 ≤ high → j < 5 → pos (high - 1 - 5 * k + j) -ℤ pos 4 ≡ pos high -ℤ pos 1 -ℤ pos (5 * k + (4 - j))
up_at high k j h l = omega (arith, ints)

pub marks_up : (rows : List ℕ) (high strips : ℕ) (cells : List Cell) → length rows ≡ 69 → high ≤ 64 → 5 * strips ≤ high + 4 → HoldsRows rows cells → HoldsMarks (λ k. five_rows rows (high - 1 - 5 * k)) strips (map (upside_down high) cells)
marks_up rows high strips cells room low few held k x h =
    let first = high - 1 - 5 * k in
    let t = λ (j : ℕ). is_at (map (upside_down high) cells) x (pos (5 * k + j)) in
    let turned : (z : ℤ) → is_at (map (upside_down high) cells) x z ≡ is_at cells x (pos high -ℤ pos 1 -ℤ z) =
    λ z. list_any-map (same_cell (pos x, z)) (upside_down high) cells
    ∙ list_any-alike (λ c. same_cell (pos x, z) (upside_down high c)) (same_cell (pos x, pos high -ℤ pos 1 -ℤ z)) (λ c. same_cell-forth (upside_down high) (upside_down high) (down_inverse high) (pos x, z) c) cells in
    let row : (j : ℕ) → j < 5 → bit_at (get_or rows (first + j) 0) x ≡ (if t (4 - j) then 1 else 0) =
    λ j l. held (first + j) x (omega arith)
    ∙ ap (λ z. if is_at cells x z then 1 else 0) (up_at high k j (omega arith) l)
    ∙ ap (λ b. if b then 1 else 0) (sym (turned (pos (5 * k + (4 - j))))) in
    let at : first ≡ first + 0 = omega arith in
    together_up rows first x t (ap (λ n. bit_at (get_or rows n 0) x) at ∙ row 0 (omega arith)) row

-- ---- one cell of a list after another

pub placed_more : (d : Cell → Cell) (cells : List Cell) (i : ℕ) (rows : List ℕ) (placed : Cell) → i < length cells → placed ≡ d (get_or cells i origin) → HoldsRows rows (map d (take i cells) ++ placed ∷ []) → HoldsRows rows (map d (take (i + 1) cells))
placed_more d cells i rows placed h is held =
    subst (HoldsRows rows)
    (ap (λ c. map d (take i cells) ++ c ∷ []) is ∙ sym (map-append d (take i cells) (get_or cells i origin ∷ [])) ∙ ap (map d) (sym (take_more cells i origin h)))
    held
