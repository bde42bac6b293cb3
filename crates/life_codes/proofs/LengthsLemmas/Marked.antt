-- What the marks of columns say about the texts of the cells.
use Rattle.std.proofs.Common.{◌≡◌, ℕ, ◌+◌, ◌-◌, ◌*◌, ◌<◌, ◌≤ℤ◌, ◌+ℤ◌, ◌-ℤ◌, ℤ, neg_ℤ, pos, Bool, List, map, length, get_or, reverse, true, false, subst, sym, refl, ap, ◌∙◌, arith}
use Rattle.std.specs.Prelude.{nat_abs}
use Rattle.std.specs.Int.{bit_at}
use Rattle.std.specs.List.{range_with_len}
use Rattle.std.proofs.lemmas.Int.{ints}
use Rattle.std.proofs.lemmas.List.{get_or-reverse, length-reverse}
use Rattle.std.proofs.lemmas.List.FromFn.{get_or-map-range_with_len, length-map-range_with_len}
use Rattle.std.proofs.lemmas.Simd.{map-map}
use Rattle.life_model.specs.Cell.{Cell, opposite, plus}
use Rattle.life_model.specs.Generation.{Generation, from_list}
use Rattle.life_model.specs.Symmetry.{normal, Orientation, Same, FlipX, FlipY, Half, Swap, SwapFlipX, SwapFlipY, SwapHalf, turn, image_under}
use Rattle.life_model.proofs.Cells.{pair}
use Rattle.life_model.proofs.Objects.{then_turned, turn-then_turned, turned-turned}
use Rattle.life_cells.specs.Wechsler.{column_value, strip_text, strips_text, body}
use Rattle.life_cells.proofs.Weights.{live_value}
use Rattle.life_codes.specs.declared.lengths.frame.Frame.{Frame}
use Rattle.life_codes.specs.declared.lengths.measure.Lengths.{Lengths}
use Rattle.life_codes.specs.Lengths.Frames.{IsInFrame, frame_of, turned_frame, cell_in_frame, wide_of, strips_of}
use Rattle.life_codes.specs.Lengths.Words.{AreLengths, AreZeroTogether, IsFrameOf, IsSmallFrame, word_columns}
use Rattle.life_codes.proofs.LengthsLemmas.Bodies.{column-mirror, contains-normal_placed, framed_cells, strip_number}
use Rattle.life_codes.proofs.LengthsLemmas.ColumnMarks.{HoldsMarks, upside_down, words_text}
use Rattle.life_codes.proofs.LengthsLemmas.Framed.{Framed, framed_turned, width_framed, range_ordered}
use Rattle.life_codes.proofs.LengthsLemmas.Worded.{same_lengths, same_texts_length, length-word_columns, column_at}

-- ---- a small frame is small however it is turned

pub small_turned : (m : Orientation) (f : Frame) → f.left ≤ℤ f.right → f.top ≤ℤ f.bottom → IsSmallFrame f → IsSmallFrame (turned_frame m f)
small_turned Same f a d h = h
small_turned FlipX f a d h = let x = h.across in record { across = omega (arith, ints); down = h.down }
small_turned FlipY f a d h = let y = h.down in record { across = h.across; down = omega (arith, ints) }
small_turned Half f a d h = let x = h.across in let y = h.down in record { across = omega (arith, ints); down = omega (arith, ints) }
small_turned Swap f a d h = record { across = h.down; down = h.across }
small_turned SwapFlipX f a d h = let y = h.down in record { across = omega (arith, ints); down = h.across }
small_turned SwapFlipY f a d h = let x = h.across in record { across = h.down; down = omega (arith, ints) }
small_turned SwapHalf f a d h = let x = h.across in let y = h.down in record { across = omega (arith, ints); down = omega (arith, ints) }

abbrev InTurned : Orientation → Frame → Cell → Type 0
InTurned m f c = IsInFrame (turned_frame m f) (turn m c)

turned_round : (low z high : ℤ) → low ≤ℤ z → z ≤ℤ high → (neg_ℤ high ≤ℤ neg_ℤ z) × (neg_ℤ z ≤ℤ neg_ℤ low)
turned_round low z high a b = (omega (arith, ints), omega (arith, ints))

pub inside_turned : (m : Orientation) (f : Frame) (c : Cell) → IsInFrame f c → InTurned m f c
inside_turned Same f c h = record { left = h.left; right = h.right; above = h.above; below = h.below }
inside_turned FlipX f c h = let x = turned_round f.left c.0 f.right h.left h.right in record { left = x.0; right = x.1; above = h.above; below = h.below }
inside_turned FlipY f c h = let y = turned_round f.top c.1 f.bottom h.above h.below in record { left = h.left; right = h.right; above = y.0; below = y.1 }
inside_turned Half f c h =
    let x = turned_round f.left c.0 f.right h.left h.right in
    let y = turned_round f.top c.1 f.bottom h.above h.below in
    record { left = x.0; right = x.1; above = y.0; below = y.1 }
inside_turned Swap f c h = record { left = h.above; right = h.below; above = h.left; below = h.right }
inside_turned SwapFlipX f c h = let y = turned_round f.top c.1 f.bottom h.above h.below in record { left = y.0; right = y.1; above = h.left; below = h.right }
inside_turned SwapFlipY f c h = let x = turned_round f.left c.0 f.right h.left h.right in record { left = h.above; right = h.below; above = x.0; below = x.1 }
inside_turned SwapHalf f c h =
    let x = turned_round f.left c.0 f.right h.left h.right in
    let y = turned_round f.top c.1 f.bottom h.above h.below in
    record { left = y.0; right = y.1; above = x.0; below = x.1 }

-- ---- the lengths of the two texts of a set

module _ (cs : List Cell) (m : Orientation) (f : Frame) (h : Framed (image_under (from_list cs) m) f) (words : ℕ → ℕ) (some : 0 < strips_of f) (held : HoldsMarks words (strips_of f) (map (cell_in_frame m f) cs)) where
  together : (k x : ℕ) → k < strips_of f → AreZeroTogether (bit_at (words k) x) (column_value (normal (image_under (from_list cs) m)) k x)
  together k x l =
      let both = held k x l in
      let is = ap (λ (live : ℕ → Bool). live_value live) (λ i j. contains-normal_placed cs m f h (pos x, pos (5 * k + j)) i) in
      (λ e. is ∙ both.0 e, λ e. both.1 (sym is ∙ e))

  pub length_forward : length (words_text words (wide_of f) (strips_of f) false) ≡ length (body (image_under (from_list cs) m))
  unfolding body
  length_forward =
      let G = image_under (from_list cs) m in
      let wide = wide_of f in
      same_texts_length _ _ (strips_of f) some
      (λ k a.
      let long = length-word_columns wide (words k) in
      let other = length-map-range_with_len (column_value (normal G) k) 0 wide in
      same_lengths (word_columns wide (words k)) (map (column_value (normal G) k) (range_with_len 0 wide)) 0 (omega arith)
      (λ x l.
      let inside : x < wide = omega arith in
      let one = column_at wide (words k) x inside in
      let two = get_or-map-range_with_len (column_value (normal G) k) 0 wide x x 0 inside (omega arith) in
      let both = together k x a in
      (λ e. two ∙ both.0 (sym one ∙ e), λ e. one ∙ both.1 (sym two ∙ e))))
      ∙ (λ i. length (strips_text (strip_text (normal G) (sym (width_framed G f h) i)) (strip_number G f h i)))

  pub length_backward : length (words_text words (wide_of f) (strips_of f) true) ≡ length (body (image_under (image_under (from_list cs) m) FlipX))
  unfolding body
  length_backward =
      let G = image_under (from_list cs) m in
      let M = image_under G FlipX in
      let g = turned_frame FlipX f in
      let there = framed_turned G f FlipX h in
      let order = range_ordered (λ c. c.0) G _ _ h.across in
      let wide = wide_of f in
      let same : wide_of f ≡ wide_of g = omega (arith, ints) in
      same_texts_length _ _ (strips_of f) some
      (λ k a.
      let row = word_columns wide (words k) in
      let long = length-word_columns wide (words k) in
      let turned_long = length-reverse row in
      let other = length-map-range_with_len (column_value (normal M) k) 0 wide in
      same_lengths (reverse row) (map (column_value (normal M) k) (range_with_len 0 wide)) 0 (omega arith)
      (λ x l.
      let inside : x < wide = omega arith in
      let there : length row - 1 - x ≡ wide - 1 - x = omega arith in
      let one = get_or-reverse row x 0 (omega arith) ∙ ap (λ n. get_or row n 0) there ∙ column_at wide (words k) (wide - 1 - x) (omega arith) in
      let two = get_or-map-range_with_len (column_value (normal M) k) 0 wide x x 0 inside (omega arith) ∙ column-mirror G f h k x inside in
      let both = together k (wide - 1 - x) a in
      (λ e. two ∙ both.0 (sym one ∙ e), λ e. one ∙ both.1 (sym two ∙ e))))
      ∙ (λ i. length (strips_text (strip_text (normal M) ((same ∙ sym (width_framed M g there)) i)) (strip_number M g there i)))

pub lengths_of_marks : (cs : List Cell) (m : Orientation) (f : Frame) (lengths : Lengths) (words : ℕ → ℕ) → Framed (image_under (from_list cs) m) f → HoldsMarks words (strips_of f) (map (cell_in_frame m f) cs) →
    lengths.forward ≡ length (words_text words (wide_of f) (strips_of f) false) → lengths.backward ≡ length (words_text words (wide_of f) (strips_of f) true) →
    AreLengths lengths (from_list cs) m
lengths_of_marks cs m f lengths words framed held forward backward =
    let any : 0 < strips_of f = omega arith in
    record {
      forward = forward ∙ length_forward cs m f framed words any held;
      backward = backward ∙ length_backward cs m f framed words any held;
    }

pub framed_from : (cs : List Cell) (m : Orientation) (f : Frame) → IsFrameOf f m cs → Framed (image_under (from_list cs) m) f
framed_from cs m f h = framed_cells cs m (frame_of cs) f h.some refl h.frame

-- ---- and of the set upside down

down_from : (z top bottom : ℤ) (high : ℕ) → top ≤ℤ bottom → high ≡ nat_abs (bottom -ℤ top) + 1 → pos high -ℤ pos 1 -ℤ (z +ℤ neg_ℤ top) ≡ neg_ℤ z +ℤ neg_ℤ (neg_ℤ bottom)
down_from z top bottom high order is = omega (arith, ints)

module _ (cs : List Cell) (m : Orientation) (f : Frame) (high : ℕ) (order : f.top ≤ℤ f.bottom) (is : high ≡ nat_abs (f.bottom -ℤ f.top) + 1) where
  down_cell : (c : Cell) → upside_down high (cell_in_frame m f c) ≡ cell_in_frame (then_turned m FlipY) (turned_frame FlipY f) c
  down_cell c =
      pair refl (down_from (turn m c).1 f.top f.bottom high order is)
      ∙ ap (λ d. plus d (opposite (f.left, neg_ℤ f.bottom))) (sym (turn-then_turned m FlipY c))

  down_cells : map (upside_down high) (map (cell_in_frame m f) cs) ≡ map (cell_in_frame (then_turned m FlipY) (turned_frame FlipY f)) cs
  down_cells = map-map (upside_down high) (cell_in_frame m f) cs ∙ ap (λ (d : Cell → Cell). map d cs) (λ i c. down_cell c i)

  pub lengths_of_marks_up : (lengths : Lengths) (words : ℕ → ℕ) → Framed (image_under (from_list cs) m) f → HoldsMarks words (strips_of f) (map (upside_down high) (map (cell_in_frame m f) cs)) →
      lengths.forward ≡ length (words_text words (wide_of f) (strips_of f) false) → lengths.backward ≡ length (words_text words (wide_of f) (strips_of f) true) →
      AreLengths lengths (image_under (from_list cs) m) FlipY
  lengths_of_marks_up lengths words framed held forward backward =
      let G = from_list cs in
      let n = then_turned m FlipY in
      let g = turned_frame FlipY f in
      let turned = turned-turned G m FlipY in
      let there : Framed (image_under G n) g = subst (λ H. Framed H g) turned (framed_turned (image_under G m) f FlipY framed) in
      let same : strips_of f ≡ strips_of g = omega (arith, ints) in
      let marks : HoldsMarks words (strips_of g) (map (cell_in_frame n g) cs) = subst (λ s. HoldsMarks words s (map (cell_in_frame n g) cs)) same (subst (HoldsMarks words (strips_of f)) down_cells held) in
      let wide : wide_of f ≡ wide_of g = refl in
      let all = lengths_of_marks cs n g lengths words there marks (forward ∙ (λ i. length (words_text words (wide i) (same i) false))) (backward ∙ (λ i. length (words_text words (wide i) (same i) true))) in
      record {
        forward = all.forward ∙ ap (λ H. length (body H)) (sym turned);
        backward = all.backward ∙ ap (λ H. length (body (image_under H FlipX))) (sym turned);
      }

-- the lengths of a set upside down are those of its half turn, mirrored
pub mirrored_lengths : (G : Generation) (m n : Orientation) (l r : Lengths) → r.forward ≡ l.backward → r.backward ≡ l.forward → n ≡ then_turned (then_turned m FlipY) FlipX → then_turned n FlipX ≡ then_turned m FlipY → AreLengths l (image_under G m) FlipY → AreLengths r G n
mirrored_lengths G m n l r f b there back h =
    let down = turned-turned G m FlipY in
    record {
      forward = f ∙ h.backward ∙ ap (λ H. length (body (image_under H FlipX))) down ∙ ap (λ H. length (body H)) (turned-turned G (then_turned m FlipY) FlipX) ∙ ap (λ o. length (body (image_under G o))) (sym there);
      backward = b ∙ h.forward ∙ ap (λ H. length (body H)) down ∙ ap (λ o. length (body (image_under G o))) (sym back) ∙ ap (λ H. length (body H)) (sym (turned-turned G n FlipX));
    }
