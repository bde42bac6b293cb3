-- Columns of strips of any width as they are marked one after another, and what the marks say about the texts of the cells.
use Rattle.std.proofs.Common.{◌≡◌, ◌≢◌, ℕ, ℤ, neg_ℤ, ◌+ℤ◌, ◌-ℤ◌, ◌≤ℤ◌, subst, ◌+◌, ◌-◌, ◌*◌, ◌/◌, ◌%◌, ◌^◌, ◌<◌, ◌≤◌, pos, List, [], map, length, get_or, set, take, reverse, true, false, inl, inr, w64, sym, refl, ap, ◌∙◌, arith, T}
use Rattle.std.specs.Prelude.{All, nat_abs}
use Rattle.std.specs.Int.{bit_at}
use Rattle.std.specs.Int.Bits.{bit_or}
use Rattle.std.specs.List.{range_with_len}
use Rattle.std.proofs.Math.Nat.{mul-le-mul_right}
use Rattle.std.proofs.lemmas.Bool.Decides.{eqb_tells}
use Rattle.std.proofs.lemmas.Int.{ints}
use Rattle.std.proofs.lemmas.List.{length-set, get_or-set_other, get_or-set_same, get_or-reverse, length-reverse}
use Rattle.std.proofs.lemmas.List.FromFn.{get_or-map-range_with_len, length-map-range_with_len}
use Rattle.std.proofs.lemmas.Nat.{pow_pos}
use Rattle.std.proofs.lemmas.Nat.Bits.{bit_at-zero, bit_at_set_same, bit_at_set_other}
use Rattle.life_model.specs.Cell.{Cell, origin}
use Rattle.life_model.specs.Generation.{Generation, from_list, is_rising}
use Rattle.life_model.specs.Symmetry.{normal, Orientation, Same, FlipX, FlipY, Half, Swap, SwapFlipY, SwapHalf, image_under}
use Rattle.life_model.proofs.Objects.{turned-turned}
use Rattle.life_cells.specs.Dots.{weight, weights}
use Rattle.life_cells.specs.Wechsler.{column_value, strip_text, strips_text, body}
use Rattle.life_codes.specs.declared.lengths.frame.Frame.{Frame}
use Rattle.life_codes.specs.declared.lengths.measure.Lengths.{Lengths}
use Rattle.life_codes.specs.Lengths.Frames.{IsBounded, IsInFrame, frame_of, turned_frame, cell_in_frame, wide_of, strips_of}
use Rattle.life_codes.specs.Lengths.Words.{AreLengths, AreZeroTogether}
use Rattle.life_codes.specs.Lengths.WideWords.{HoldsWide, HoldsWideTurned, IsRoomFor, with_bit, wide_bit, wide_columns, wide_text, words_in}
use Rattle.life_codes.proofs.LengthsLemmas.Bodies.{column-placed, column-mirror, framed_cells, strip_number}
use Rattle.life_codes.proofs.LengthsLemmas.Filled.{weight_here, other_column, other_strip, weights_more, column_within, apart}
use Rattle.life_codes.proofs.LengthsLemmas.Framed.{Framed, framed_turned, width_framed, range_ordered}
use Rattle.life_codes.proofs.LengthsLemmas.Worded.{same_lengths, same_texts_length}
use Rattle.life_codes.proofs.LengthsLemmas.WideWorded.{length-wide_columns, wide_column_at}

-- ---- one cell after another

pub nothing_wide : (words : List ℕ) (wide strips : ℕ) → length words ≡ strips * words_in wide → All (λ w. w ≡ 0) words → HoldsWide words wide strips []
nothing_wide words wide strips room none =
    let dark : (k x : ℕ) → k < strips → x < words_in wide * 64 → wide_bit words (k * words_in wide) x ≡ 0 = λ k x hk hx.
    let inside = column_within k strips (x / 64) (words_in wide) hk (omega arith) in
    ap (λ w. bit_at w (x % 64)) (none (k * words_in wide + x / 64) 0 (omega arith)) ∙ bit_at-zero (x % 64) in
    record {
      each = λ k x hk hx. (λ e. refl, λ e. dark k x hk (omega arith));
      beyond = λ k hk x hx hy. dark k x hk hy;
    }

module _ (d : Cell → Cell) (cells : List Cell) (i : ℕ) (words : List ℕ) (wide strips p r : ℕ) (h : i < length cells) (at : ◌≡◌ {A = Cell} (pos p, pos r) (d (get_or cells i origin))) (column : p < wide) (strip : r / 5 < strips) (room : length words ≡ strips * words_in wide) (held : HoldsWide words wide strips (map d (take i cells))) where
  abbrev place : ℕ
  place = r / 5 * words_in wide + p / 64

  abbrev marked : ℕ
  marked = bit_or (get_or words place 0) (1 * 2 ^ (p % 64) % 2 ^ 64)

  abbrev new : List ℕ
  new = set words place marked

  inside : place < length words
  inside = let all = column_within (r / 5) strips (p / 64) (words_in wide) strip (omega arith) in omega arith

  more : (k x : ℕ) → weights k (map d (take (i + 1) cells)) x ≡ weights k (map d (take i cells)) x + weight k x (pos p, pos r)
  more k x = weights_more d cells i k x h ∙ ap (λ c. weights k (map d (take i cells)) x + weight k x c) (sym at)

  untouched : (k x : ℕ) → weight k x (pos p, pos r) ≡ 0 → weights k (map d (take i cells)) x ≡ weights k (map d (take (i + 1) cells)) x
  untouched k x none = let all = more k x in omega arith

  bit_set : wide_bit new (r / 5 * words_in wide) p ≡ 1
  bit_set = ap (λ w. bit_at w (p % 64)) (get_or-set_same words place marked 0 inside) ∙ bit_at_set_same w64 (get_or words place 0) (p % 64) (omega arith)

  other_word : (k x : ℕ) → k * words_in wide + x / 64 ≢ place → wide_bit new (k * words_in wide) x ≡ wide_bit words (k * words_in wide) x
  other_word k x differ = ap (λ w. bit_at w (x % 64)) (get_or-set_other words place (k * words_in wide + x / 64) marked 0 differ)

  strip_kept : (k x : ℕ) → x < words_in wide * 64 → k ≢ r / 5 → wide_bit new (k * words_in wide) x ≡ wide_bit words (k * words_in wide) x
  strip_kept k x hx differ = other_word k x (apart k (r / 5) (x / 64) (p / 64) (words_in wide) (omega arith) (omega arith) differ)

  column_kept : (x : ℕ) → x ≢ p → wide_bit new (r / 5 * words_in wide) x ≡ wide_bit words (r / 5 * words_in wide) x
  column_kept x differ =
      elim (eqb_tells (x / 64) (p / 64)) [
        | inl e ↦
            let same_word = e.1 in
            let here : r / 5 * words_in wide + x / 64 ≡ place = ap (λ n. r / 5 * words_in wide + n) same_word in
            ap (λ n. bit_at (get_or new n 0) (x % 64)) here
            ∙ ap (λ w. bit_at w (x % 64)) (get_or-set_same words place marked 0 inside)
            ∙ bit_at_set_other w64 (get_or words place 0) (p % 64) (omega arith) (x % 64) (λ l. differ (omega arith))
            ∙ ap (λ n. bit_at (get_or words n 0) (x % 64)) (sym here)
        | inr e ↦
            let other = e.1 in
            other_word (r / 5) x (λ l. other (omega arith))
      ]

  pub marked_wide : HoldsWide new wide strips (map d (take (i + 1) cells))
  marked_wide = record { each = each; beyond = beyond }
    where
      each : (k x : ℕ) → k < strips → x < wide → AreZeroTogether (wide_bit new (k * words_in wide) x) (weights k (map d (take (i + 1) cells)) x)
      each k x hk hx =
          elim (eqb_tells k (r / 5)) [
            | inl e ↦
                elim (eqb_tells x p) [
                  | inl f ↦
                      let one : wide_bit new (k * words_in wide) x ≡ 1 = (λ t. wide_bit new (e.1 t * words_in wide) (f.1 t)) ∙ bit_set in
                      let here = more k x ∙ (λ t. weights k (map d (take i cells)) x + weight (e.1 t) (f.1 t) (pos p, pos r)) ∙ ap (λ n. weights k (map d (take i cells)) x + n) (weight_here p r) in
                      let live = pow_pos (r % 5) in
                      (λ none. absurd (omega arith), λ none. absurd (omega arith))
                  | inr f ↦
                      let old = ap (λ n. wide_bit new (n * words_in wide) x) e.1 ∙ column_kept x f.1 ∙ ap (λ n. wide_bit words (n * words_in wide) x) (sym e.1) in
                      let same = untouched k x (ap (λ n. weight n x (pos p, pos r)) e.1 ∙ other_column x p r (λ l. f.1 (sym l))) in
                      let before = held.each k x hk hx in
                      (λ none. sym same ∙ before.0 (sym old ∙ none), λ none. old ∙ before.1 (same ∙ none))
                ]
            | inr e ↦
                let old = strip_kept k x (omega arith) e.1 in
                let same = untouched k x (other_strip k x p r e.1) in
                let before = held.each k x hk hx in
                (λ none. sym same ∙ before.0 (sym old ∙ none), λ none. old ∙ before.1 (same ∙ none))
          ]

      beyond : (k : ℕ) → k < strips → (x : ℕ) → wide ≤ x → x < words_in wide * 64 → wide_bit new (k * words_in wide) x ≡ 0
      beyond k hk x hx hy =
          elim (eqb_tells k (r / 5)) [
            | inl e ↦
                ap (λ n. wide_bit new (n * words_in wide) x) e.1 ∙ column_kept x (λ l. omega arith) ∙ held.beyond (r / 5) strip x hx hy
            | inr e ↦
                strip_kept k x hy e.1 ∙ held.beyond k hk x hx hy
          ]

-- ---- the lengths of the two texts of a set

module _ (cs : List Cell) (m : Orientation) (f : Frame) (h : Framed (image_under (from_list cs) m) f) (rising : T (is_rising cs)) (words : List ℕ) (some : 0 < strips_of f) (held : HoldsWide words (wide_of f) (strips_of f) (map (cell_in_frame m f) cs)) where
  together : (k x : ℕ) → k < strips_of f → x < wide_of f → AreZeroTogether (wide_bit words (k * words_in (wide_of f)) x) (column_value (normal (image_under (from_list cs) m)) k x)
  together k x a b =
      let both = held.each k x a b in
      let is = column-placed cs m f h rising k x in
      (λ e. sym is ∙ both.0 e, λ e. both.1 (is ∙ e))

  pub wide_forward : length (wide_text words (wide_of f) (strips_of f) false) ≡ length (body (image_under (from_list cs) m))
  unfolding body
  wide_forward =
      let G = image_under (from_list cs) m in
      let wide = wide_of f in
      same_texts_length _ _ (strips_of f) some
      (λ k a.
      let first = k * words_in wide in
      let long = length-wide_columns words first wide in
      let other = length-map-range_with_len (column_value (normal G) k) 0 wide in
      same_lengths (wide_columns words first wide) (map (column_value (normal G) k) (range_with_len 0 wide)) 0 (omega arith)
      (λ x l.
      let inside : x < wide = omega arith in
      let one = wide_column_at words first wide x inside in
      let two = get_or-map-range_with_len (column_value (normal G) k) 0 wide x x 0 inside (omega arith) in
      let both = together k x a inside in
      (λ e. two ∙ both.0 (sym one ∙ e), λ e. one ∙ both.1 (sym two ∙ e))))
      ∙ (λ i. length (strips_text (strip_text (normal G) (sym (width_framed G f h) i)) (strip_number G f h i)))

  pub wide_backward : length (wide_text words (wide_of f) (strips_of f) true) ≡ length (body (image_under (image_under (from_list cs) m) FlipX))
  unfolding body
  wide_backward =
      let G = image_under (from_list cs) m in
      let M = image_under G FlipX in
      let g = turned_frame FlipX f in
      let there = framed_turned G f FlipX h in
      let order = range_ordered (λ c. c.0) G _ _ h.across in
      let wide = wide_of f in
      let same : wide_of f ≡ wide_of g = omega (arith, ints) in
      same_texts_length _ _ (strips_of f) some
      (λ k a.
      let first = k * words_in wide in
      let row = wide_columns words first wide in
      let long = length-wide_columns words first wide in
      let turned_long = length-reverse row in
      let other = length-map-range_with_len (column_value (normal M) k) 0 wide in
      same_lengths (reverse row) (map (column_value (normal M) k) (range_with_len 0 wide)) 0 (omega arith)
      (λ x l.
      let inside : x < wide = omega arith in
      let behind : wide - 1 - x < wide = omega arith in
      let there : length row - 1 - x ≡ wide - 1 - x = omega arith in
      let one = get_or-reverse row x 0 (omega arith) ∙ ap (λ n. get_or row n 0) there ∙ wide_column_at words first wide (wide - 1 - x) behind in
      let two = get_or-map-range_with_len (column_value (normal M) k) 0 wide x x 0 inside (omega arith) ∙ column-mirror G f h k x inside in
      let both = together k (wide - 1 - x) a behind in
      (λ e. two ∙ both.0 (sym one ∙ e), λ e. one ∙ both.1 (sym two ∙ e))))
      ∙ (λ i. length (strips_text (strip_text (normal M) ((same ∙ sym (width_framed M g there)) i)) (strip_number M g there i)))

-- ---- one cell, as each of the four maps takes it

other_side : (x low high : ℤ) (p : ℕ) → low ≤ℤ high → pos p ≡ x +ℤ neg_ℤ low → p < nat_abs (high -ℤ low) + 1 → pos (nat_abs (high -ℤ low) + 1 - 1 - p) ≡ neg_ℤ x +ℤ neg_ℤ (neg_ℤ high)
other_side x low high p order at inside = omega (arith, ints)

-- The map takes a cell of the frame to this column and this row.
pub record IsAt (m : Orientation) (f : Frame) (c : Cell) (p r : ℕ) : Type 0 where
  pub at : ◌≡◌ {A = Cell} (pos p, pos r) (cell_in_frame m (turned_frame m f) c)
  pub column : p < wide_of (turned_frame m f)
  pub strip : r / 5 < strips_of (turned_frame m f)

pub row_within : (f : Frame) (c : Cell) (p r : ℕ) → IsInFrame f c → f.top ≤ℤ f.bottom → ◌≡◌ {A = Cell} (pos p, pos r) (cell_in_frame Same f c) → r ≤ nat_abs (f.bottom -ℤ f.top)
row_within f c p r inside down at =
    let is : pos r ≡ c.1 +ℤ neg_ℤ f.top = ap (λ q. q.1) at in
    let below = inside.below in
    omega (arith, ints)

module _ (f : Frame) (c : Cell) (p r : ℕ) (across : f.left ≤ℤ f.right) (down : f.top ≤ℤ f.bottom) (at : ◌≡◌ {A = Cell} (pos p, pos r) (cell_in_frame Same f c)) (column : p < wide_of f) (row : r ≤ nat_abs (f.bottom -ℤ f.top)) where
  pub at_same : IsAt Same f c p r
  at_same = record { at = at; column = column; strip = omega arith }

  pub at_flip : IsAt FlipY f c p (nat_abs (f.bottom -ℤ f.top) + 1 - 1 - r)
  at_flip =
      let below : pos (nat_abs (f.bottom -ℤ f.top) + 1 - 1 - r) ≡ neg_ℤ c.1 +ℤ neg_ℤ (neg_ℤ f.bottom) = other_side c.1 f.top f.bottom r down (ap (λ q. q.1) at) (omega arith) in
      record { at = λ i. ((at i).0, below i); column = column; strip = omega (arith, ints) }

  pub at_swap : IsAt Swap f c r p
  at_swap = record { at = λ i. ((at i).1, (at i).0); column = omega arith; strip = omega arith }

  pub at_swap_flip : IsAt SwapFlipY f c r (wide_of f - 1 - p)
  at_swap_flip =
      let behind : pos (wide_of f - 1 - p) ≡ neg_ℤ c.0 +ℤ neg_ℤ (neg_ℤ f.right) = other_side c.0 f.left f.right p across (ap (λ q. q.0) at) column in
      record { at = λ i. ((at i).1, behind i); column = omega arith; strip = omega (arith, ints) }

module _ (m : Orientation) (f : Frame) (cells : List Cell) (i p r : ℕ) (words : List ℕ) (first : ℕ) (is : IsAt m f (get_or cells i origin) p r) (room : IsRoomFor words m f) (begins : first ≡ r / 5 * words_in (wide_of (turned_frame m f))) where
  pub mark_fits : first + p / 64 < length words
  mark_fits =
      let column = is.column in
      let all = column_within (r / 5) (strips_of (turned_frame m f)) (p / 64) (words_in (wide_of (turned_frame m f))) is.strip (omega arith) in
      omega arith

  pub marked_turned : (after : List ℕ) → after ≡ with_bit words first p → i < length cells → HoldsWideTurned words m f (take i cells) → HoldsWideTurned after m f (take (i + 1) cells)
  marked_turned after e h held =
      let g = turned_frame m f in
      subst (λ ws. HoldsWide ws (wide_of g) (strips_of g) (map (cell_in_frame m g) (take (i + 1) cells)))
      (ap (λ n. with_bit words n p) (sym begins) ∙ sym e)
      (marked_wide (cell_in_frame m g) cells i words (wide_of g) (strips_of g) p r h is.at is.column is.strip room held)

  pub still_room : (after : List ℕ) → after ≡ with_bit words first p → IsRoomFor after m f
  still_room after e = ap length e ∙ length-set words (first + p / 64) (bit_or (get_or words (first + p / 64) 0) (1 * 2 ^ (p % 64) % 2 ^ 64)) ∙ room

-- where words of strips begin fits
pub place_fits : (f : Frame) → IsBounded f → (r : ℕ) → r ≤ nat_abs (f.bottom -ℤ f.top) → r / 5 * words_in (wide_of f) < 2 ^ 64
place_fits f b r h =
    let few : r / 5 ≤ 6710887 = omega (arith, ints) in
    let narrow : words_in (wide_of f) ≤ 524289 = omega (arith, ints) in
    let all = mul-le-mul_right (words_in (wide_of f)) few in
    omega arith

pub two_wide_lengths : (cs : List Cell) (m : Orientation) (f : Frame) (lengths : Lengths) (words : List ℕ) → 0 < length cs → T (is_rising cs) → f ≡ frame_of cs → HoldsWideTurned words m f cs →
    lengths.forward ≡ length (wide_text words (wide_of (turned_frame m f)) (strips_of (turned_frame m f)) false) → lengths.backward ≡ length (wide_text words (wide_of (turned_frame m f)) (strips_of (turned_frame m f)) true) →
    AreLengths lengths (from_list cs) m
two_wide_lengths cs m f lengths words some rising e held forward backward =
    let g = turned_frame m f in
    let framed = framed_cells cs m f g some e refl in
    let any : 0 < strips_of g = omega arith in
    record {
      forward = forward ∙ wide_forward cs m g framed rising words any held;
      backward = backward ∙ wide_backward cs m g framed rising words any held;
    }

-- a mirror image has the lengths the other way round
pub flipped_lengths : (lengths other : Lengths) (G : Generation) → AreLengths lengths G FlipY → other.forward ≡ lengths.backward → other.backward ≡ lengths.forward → AreLengths other G Half
flipped_lengths lengths other G are forward backward = record {
  forward = forward ∙ are.backward ∙ ap (λ H. length (body H)) (turned-turned G FlipY FlipX);
  backward = backward ∙ are.forward ∙ ap (λ H. length (body H)) (sym (turned-turned G Half FlipX));
}

pub swap_flipped_lengths : (lengths other : Lengths) (G : Generation) → AreLengths lengths G SwapFlipY → other.forward ≡ lengths.backward → other.backward ≡ lengths.forward → AreLengths other G SwapHalf
swap_flipped_lengths lengths other G are forward backward = record {
  forward = forward ∙ are.backward ∙ ap (λ H. length (body H)) (turned-turned G SwapFlipY FlipX);
  backward = backward ∙ are.forward ∙ ap (λ H. length (body H)) (sym (turned-turned G SwapHalf FlipX));
}
