-- Keys as cells are marked in them, and the texts of their columns.
use Rattle.std.proofs.Common.{◌≡◌, ℕ, zero, suc, ◌+◌, ◌-◌, ◌*◌, ◌/◌, ◌%◌, ◌^◌, ◌<◌, pos, ◌-ℤ◌, Bool, true, false, List, [], ◌∷◌, ◌++◌, map, length, get_or, inl, inr, if◌then◌else◌, w32, take, subst, sym, refl, ap, ◌∙◌, arith}
use Rattle.std.specs.Prelude.{nat_abs}
use Rattle.std.specs.Int.{bit_at}
use Rattle.std.specs.Int.Bits.{bit_or}
use Rattle.std.specs.List.{range_with_len}
use Rattle.std.proofs.Math.Pow.{pow-lt}
use Rattle.std.proofs.lemmas.Bool.Decides.{eqb_tells}
use Rattle.std.proofs.lemmas.Int.{ints}
use Rattle.std.proofs.lemmas.List.{map-append, take_more}
use Rattle.std.proofs.lemmas.Nat.{one_shl, or_lt, pow_pos, shr-shr}
use Rattle.std.proofs.lemmas.Nat.Bits.{bit_at-zero, bit_at_set_same, bit_at_set_other}
use Rattle.life_model.specs.Cell.{Cell, origin}
use Rattle.life_model.specs.Generation.{from_list}
use Rattle.life_model.specs.Symmetry.{normal, Orientation, Same, FlipX, FlipY, Half, Swap, SwapFlipX, SwapFlipY, SwapHalf, image_under}
use Rattle.life_model.proofs.Cells.{cells_differ, same_cell-is}
use Rattle.life_model.proofs.Objects.{then_turned, turned-turned}
use Rattle.life_cells.specs.Wechsler.{column_value, columns_text, digit, strip_text, strips_text, body}
use Rattle.life_cells.proofs.Weights.{live_value}
use Rattle.life_answer.specs.Apgcode.{turned_bodies}
use Rattle.life_codes.specs.declared.lengths.frame.Frame.{Frame}
use Rattle.life_codes.specs.declared.keys.Keys.{Keys}
use Rattle.life_codes.specs.Lengths.Frames.{IsBounded, IsTinyFrame, cell_in_frame, frame_of, strips_of, turned_frame, wide_of}
use Rattle.life_codes.specs.Keys.{AreBelow, AreKeys, ArePlain, IsKey, IsPlain, IsTurnedKey, column_of, key_text, key_texts}
use Rattle.life_codes.specs.Lengths.Words.{is_at}
use Rattle.life_codes.proofs.LengthsLemmas.Bodies.{column-mirror, contains-normal_placed, framed_cells, strip_number}
use Rattle.life_codes.proofs.LengthsLemmas.Framed.{Framed, framed_turned, range_ordered, width_framed}
use Rattle.life_codes.proofs.LengthsLemmas.Written.{one_more}
use Rattle.life_codes.proofs.LengthsLemmas.Rows.{at_last, not_at_last}

-- ---- one cell after another

pub nothing_in_key : (wide : ℕ) → IsKey 0 wide []
nothing_in_key wide = record { bits = bit_at-zero; below = pow_pos (5 * wide) }

module _ (key p r : ℕ) (ds : List Cell) (column : p < 5) (row : r < 5) where
  abbrev one : Cell
  one = (pos p, pos r)

  abbrev marked : ℕ
  marked = bit_or key (1 * 2 ^ (5 * p + r) % 2 ^ 32)

  bits_more : ((s : ℕ) → bit_at key s ≡ (if is_at ds (s / 5) (pos (s % 5)) then 1 else 0)) → (s : ℕ) → bit_at marked s ≡ (if is_at (ds ++ one ∷ []) (s / 5) (pos (s % 5)) then 1 else 0)
  bits_more held s =
      let spot = 5 * p + r in
      elim (eqb_tells s spot) [
        | inl e ↦
            let is : s ≡ 5 * p + r = e.1 in
            let across : s / 5 ≡ p = omega arith in
            let down : s % 5 ≡ r = omega arith in
            let at : ◌≡◌ {A = Cell} (pos (s / 5), pos (s % 5)) one = λ i. (pos (across i), pos (down i)) in
            ap (bit_at marked) is ∙ bit_at_set_same w32 key spot (omega arith)
            ∙ ap (λ t. if t then 1 else 0) (sym (at_last ds one (s / 5) (pos (s % 5)) ((same_cell-is (pos (s / 5), pos (s % 5)) one).1 at)))
        | inr e ↦
            let differ = e.1 in
            bit_at_set_other w32 key spot (omega arith) s differ ∙ held s
            ∙ ap (λ t. if t then 1 else 0) (sym (not_at_last ds one (s / 5) (pos (s % 5)) (cells_differ (pos (s / 5), pos (s % 5)) one (λ l.
            let across : s / 5 ≡ p = let x = ap (λ q. q.0) l in omega (arith, ints) in
            let down : s % 5 ≡ r = let y = ap (λ q. q.1) l in omega (arith, ints) in
            differ (omega arith)))))
      ]

  pub key_more : (wide : ℕ) → p < wide → IsKey key wide ds → IsKey marked wide (ds ++ one ∷ [])
  key_more wide inside held =
      let less : 5 * p + r < 5 * wide = omega arith in
      record {
        bits = bits_more held.bits;
        below = or_lt (5 * wide) key _ held.below (subst (λ n. n < 2 ^ (5 * wide)) (sym (one_shl (5 * p + r) 32 (omega arith))) (pow-lt {i = 5 * p + r} {j = 5 * wide} less));
      }

pub key_placed : (d : Cell → Cell) (cells : List Cell) (i key wide : ℕ) (placed : Cell) → i < length cells → placed ≡ d (get_or cells i origin) → IsKey key wide (map d (take i cells) ++ placed ∷ []) → IsKey key wide (map d (take (i + 1) cells))
key_placed d cells i key wide placed h is held =
    subst (IsKey key wide)
    (ap (λ c. map d (take i cells) ++ c ∷ []) is ∙ sym (map-append d (take i cells) (get_or cells i origin ∷ [])) ∙ ap (map d) (sym (take_more cells i origin h)))
    held

-- ---- what a column holds

five_bits : (q : ℕ) → q % 32 ≡ q % 2 + 2 * (q / 2 % 2) + 4 * (q / 4 % 2) + 8 * (q / 8 % 2) + 16 * (q / 16 % 2)
five_bits q = omega arith

scaled : (t : Bool) (n : ℕ) → (if t then n else 0) ≡ n * (if t then 1 else 0)
scaled true n = omega arith
scaled false n = omega arith

live_parts : (t : ℕ → Bool) → live_value t ≡ (if t 0 then 1 else 0) + (if t 1 then 2 else 0) + (if t 2 then 4 else 0) + (if t 3 then 8 else 0) + (if t 4 then 16 else 0)
live_parts t = omega arith

module _ (key wide : ℕ) (ds : List Cell) (held : IsKey key wide ds) (x : ℕ) where
  bit_in : (j : ℕ) → j < 5 → key / 2 ^ (5 * x) / 2 ^ j % 2 ≡ (if is_at ds x (pos j) then 1 else 0)
  bit_in j h =
      let across : (5 * x + j) / 5 ≡ x = omega arith in
      let down : (5 * x + j) % 5 ≡ j = omega arith in
      ap (λ n. n % 2) (shr-shr key (5 * x) j) ∙ held.bits (5 * x + j) ∙ (λ i. if is_at ds (across i) (pos (down i)) then 1 else 0)

  pub column_is : column_of key x ≡ live_value (λ j. is_at ds x (pos (5 * 0 + j)))
  column_is =
      let q = key / 2 ^ (5 * x) in
      let t = λ (j : ℕ). is_at ds x (pos (5 * 0 + j)) in
      let parts = five_bits q in
      let live = live_parts t in
      let low : q / 2 ^ 0 ≡ q = omega arith in
      let b0 : q % 2 ≡ (if t 0 then 1 else 0) = ap (λ n. n % 2) (sym low) ∙ bit_in 0 (omega arith) in
      let b1 : q / 2 % 2 ≡ (if t 1 then 1 else 0) = bit_in 1 (omega arith) in
      let b2 : q / 4 % 2 ≡ (if t 2 then 1 else 0) = bit_in 2 (omega arith) in
      let b3 : q / 8 % 2 ≡ (if t 3 then 1 else 0) = bit_in 3 (omega arith) in
      let b4 : q / 16 % 2 ≡ (if t 4 then 1 else 0) = bit_in 4 (omega arith) in
      let s1 = scaled (t 1) 2 in
      let s2 = scaled (t 2) 4 in
      let s3 = scaled (t 3) 8 in
      let s4 = scaled (t 4) 16 in
      omega arith

-- ---- the text of columns none of which is 0

plain_text : (v : ℕ → ℕ) (key n a : ℕ) → ((x : ℕ) → x < n → v (a + x) ≡ column_of key (n - 1 - x)) → IsPlain key n → columns_text 0 (map v (range_with_len a n)) ≡ key_text n key
plain_text v key zero a e some = refl
plain_text v key (suc n) a e some =
    let here : a ≡ a + 0 = omega arith in
    let last : suc n - 1 - 0 ≡ n = omega arith in
    let first : v a ≡ column_of key n = ap v here ∙ e 0 (omega arith) ∙ ap (column_of key) last in
    let live = some n (omega arith) in
    let rest = plain_text v key n (a + 1)
    (λ x h.
    let place : a + 1 + x ≡ a + (x + 1) = omega arith in
    let other : suc n - 1 - (x + 1) ≡ n - 1 - x = omega arith in
    ap v place ∙ e (x + 1) (omega arith) ∙ ap (column_of key) other)
    (λ i h. some i (omega arith)) in
    one_more 0 (v a) (map v (range_with_len (a + 1) n)) (subst (λ k. 0 < k) (sym first) live) ∙ (λ i. digit (first i) ∷ rest i)

module _ (cs : List Cell) (m : Orientation) (f : Frame) (h : Framed (image_under (from_list cs) m) f) (key : ℕ) (held : IsKey key (wide_of f) (map (cell_in_frame m f) cs)) where
  pub column_held : (x : ℕ) → column_value (normal (image_under (from_list cs) m)) 0 x ≡ column_of key x
  column_held x =
      ap (λ (live : ℕ → Bool). live_value live) (λ i j. contains-normal_placed cs m f h (pos x, pos (5 * 0 + j)) i)
      ∙ sym (column_is key (wide_of f) (map (cell_in_frame m f) cs) held x)

  pub text_of_key : strips_of f ≡ 1 → IsPlain key (wide_of f) → body (image_under (image_under (from_list cs) m) FlipX) ≡ key_text (wide_of f) key
  unfolding body
  text_of_key one plain =
      let G = image_under (from_list cs) m in
      let M = image_under G FlipX in
      let g = turned_frame FlipX f in
      let there = framed_turned G f FlipX h in
      let order = range_ordered (λ c. c.0) G _ _ h.across in
      let wide : wide_of f ≡ wide_of g = omega (arith, ints) in
      sym (λ i. strips_text (strip_text (normal M) ((wide ∙ sym (width_framed M g there)) i)) ((sym one ∙ strip_number M g there) i))
      ∙ plain_text (column_value (normal M) 0) key (wide_of f) 0
      (λ x l. let same : 0 + x ≡ x = omega arith in ap (column_value (normal M) 0) same ∙ column-mirror G f h 0 x l ∙ column_held (wide_of f - 1 - x)) plain

-- ---- the texts of the eight keys

module _ (cs : List Cell) (f : Frame) (some : 0 < length cs) (frame : f ≡ frame_of cs) (bounded : IsBounded f) (tiny : IsTinyFrame f) where
  turned_text : (m : Orientation) (key wide : ℕ) → wide ≡ wide_of (turned_frame m f) → strips_of (turned_frame m f) ≡ 1 → IsTurnedKey key m f cs → IsPlain key wide → body (image_under (from_list cs) (then_turned m FlipX)) ≡ key_text wide key
  turned_text m key wide is one held plain =
      ap body (sym (turned-turned (from_list cs) m FlipX))
      ∙ text_of_key cs m (turned_frame m f) (framed_cells cs m f _ some frame refl) key held one (subst (IsPlain key) is plain)
      ∙ ap (λ w. key_text w key) (sym is)

  -- the columns of the mirror image are the same
  plain_mirror : (m : Orientation) (key other wide : ℕ) → wide ≡ wide_of (turned_frame m f) → IsTurnedKey key m f cs → IsTurnedKey other (then_turned m FlipX) f cs → IsPlain key wide → IsPlain other wide
  plain_mirror m key other wide is held there plain i l =
      let G = from_list cs in
      let n = then_turned m FlipX in
      let g = turned_frame m f in
      let h = framed_cells cs m f g some frame refl in
      let inside : i < wide_of g = omega arith in
      let j = wide_of g - 1 - i in
      let column : column_of other i ≡ column_of key j =
      sym (column_held cs n (turned_frame n f) (framed_cells cs n f _ some frame refl) other there i)
      ∙ ap (λ H. column_value (normal H) 0 i) (sym (turned-turned G m FlipX))
      ∙ column-mirror (image_under G m) g h 0 i inside
      ∙ column_held cs m g h key held j in
      subst (λ k. 0 < k) (sym column) (plain j (omega arith))

  pub texts_of_keys : (k : Keys) (wide high : ℕ) → wide ≡ wide_of f → high ≡ nat_abs (f.bottom -ℤ f.top) + 1 → AreKeys k f cs → ArePlain k wide high → turned_bodies (from_list cs) ≡ key_texts k wide high
  texts_of_keys k wide high e g held plain =
      let across = bounded.across in
      let down = bounded.down in
      let narrow = tiny.across in
      let low = tiny.down in
      let t1 = turned_text FlipX k.same wide (omega (arith, ints)) (omega (arith, ints)) held.same plain.same in
      let t2 = turned_text Same k.flip_x wide (omega (arith, ints)) (omega (arith, ints)) held.flip_x (plain_mirror FlipX k.same k.flip_x wide (omega (arith, ints)) held.same held.flip_x plain.same) in
      let t3 = turned_text Half k.flip_y wide (omega (arith, ints)) (omega (arith, ints)) held.flip_y (plain_mirror FlipY k.half k.flip_y wide (omega (arith, ints)) held.half held.flip_y plain.half) in
      let t4 = turned_text FlipY k.half wide (omega (arith, ints)) (omega (arith, ints)) held.half plain.half in
      let t5 = turned_text SwapFlipX k.swap high (omega (arith, ints)) (omega (arith, ints)) held.swap plain.swap in
      let t6 = turned_text Swap k.swap_flip_x high (omega (arith, ints)) (omega (arith, ints)) held.swap_flip_x (plain_mirror SwapFlipX k.swap k.swap_flip_x high (omega (arith, ints)) held.swap held.swap_flip_x plain.swap) in
      let t7 = turned_text SwapHalf k.swap_flip_y high (omega (arith, ints)) (omega (arith, ints)) held.swap_flip_y (plain_mirror SwapFlipY k.swap_half k.swap_flip_y high (omega (arith, ints)) held.swap_half held.swap_flip_y plain.swap_half) in
      let t8 = turned_text SwapFlipY k.swap_half high (omega (arith, ints)) (omega (arith, ints)) held.swap_half plain.swap_half in
      λ i. t1 i ∷ t2 i ∷ t3 i ∷ t4 i ∷ t5 i ∷ t6 i ∷ t7 i ∷ t8 i ∷ []

  pub keys_below : (k : Keys) (wide high : ℕ) → wide ≡ wide_of f → high ≡ nat_abs (f.bottom -ℤ f.top) + 1 → AreKeys k f cs → AreBelow k wide high
  keys_below k wide high e g held =
      let across = bounded.across in
      let down = bounded.down in
      let less = λ (key n : ℕ) (m : Orientation) (is : n ≡ wide_of (turned_frame m f)) (h : IsTurnedKey key m f cs). subst (λ w. key < 2 ^ (5 * w)) (sym is) h.below in
      record {
        same = less k.same wide FlipX (omega (arith, ints)) held.same;
        flip_x = less k.flip_x wide Same (omega (arith, ints)) held.flip_x;
        flip_y = less k.flip_y wide Half (omega (arith, ints)) held.flip_y;
        half = less k.half wide FlipY (omega (arith, ints)) held.half;
        swap = less k.swap high SwapFlipX (omega (arith, ints)) held.swap;
        swap_flip_x = less k.swap_flip_x high Swap (omega (arith, ints)) held.swap_flip_x;
        swap_flip_y = less k.swap_flip_y high SwapHalf (omega (arith, ints)) held.swap_flip_y;
        swap_half = less k.swap_half high SwapFlipY (omega (arith, ints)) held.swap_half;
      }
