-- The texts of grids are those of the sets whose cells fill them.
use Rattle.std.proofs.Common.{◌≡◌, ℕ, zero, suc, ◌+◌, ◌-◌, ◌*◌, ◌/◌, ◌%◌, ◌<◌, ◌≤◌, ℤ, pos, neg_ℤ, ◌+ℤ◌, ◌-ℤ◌, ◌≤ℤ◌, Bool, true, false, T, List, [], ◌∷◌, map, length, get_or, drop, reverse, sym, refl, ap, subst, ◌∙◌, arith, mod-lt, div-add-mod'}
use Rattle.std.specs.Prelude.{All, nat_abs}
use Rattle.std.specs.List.{list_any, range_with_len, join_with_byte}
use Rattle.std.proofs.lemmas.Int.{ints}
use Rattle.std.proofs.lemmas.Grind.{same_number_lists, get_or_default_zero}
use Rattle.std.proofs.lemmas.List.{get_or-take, get_or-drop, get_or-reverse, length-reverse, length-take, length-drop}
use Rattle.std.proofs.lemmas.List.Elements.{All-from_recursion}
use Rattle.std.proofs.lemmas.List.FromFn.{get_or-map-range_with_len, length-map-range_with_len}
use Rattle.std.proofs.Math.Nat.{mul-le-mul_right, div-lt_iff_lt-mul}
use Rattle.life_model.specs.Cell.{Cell, same_cell, plus, opposite}
use Rattle.life_model.specs.Generation.{Generation, contains, from_list, below_all, is_rising}
use Rattle.life_model.specs.Symmetry.{translate_of, normal, Orientation, FlipX, turn, image_under}
use Rattle.life_model.specs.Box.{height}
use Rattle.life_model.proofs.Cells.{plus-opposite, plus-opposite_first}
use Rattle.life_model.proofs.Generations.{contains-from_list, none_below}
use Rattle.life_model.proofs.Symmetries.{AreInverse, same_cell-forth, undone, turn_keeps, turn-undone, contains-moved, contains-turned}
use Rattle.life_model.proofs.Tests.{list_any-map, list_any-alike, first_holds, second_holds}
use Rattle.life_cells.specs.Dots.{weights}
use Rattle.life_cells.specs.Wechsler.{column_value, columns_text, strip_text, strips_text, body}
use Rattle.life_cells.proofs.Boxes.{contains-normal}
use Rattle.life_cells.proofs.Members.{all_from}
use Rattle.life_cells.proofs.Weights.{among, live_value, live_value-lt, one_cell_more}
use Rattle.life_codes.specs.declared.lengths.frame.Frame.{Frame}
use Rattle.life_codes.specs.Lengths.Frames.{IsInFrame, frame_of, turned_frame, cell_in_frame, wide_of, strips_of}
use Rattle.life_codes.specs.Lengths.Grids.{HoldsWeights, strip_of, grid_text}
use Rattle.life_codes.proofs.LengthsLemmas.Framed.{Framed, framed_of, framed_turned, in_frame, corner_framed, width_framed, height_framed, range_ordered}

-- ---- cells that rise stand in their list once, wherever a map without loss takes them

module _ (forth back : Cell → Cell) (undo : AreInverse forth back) where
  not_again : (c : Cell) (cs : List Cell) → T (below_all c cs) → list_any (same_cell (forth c)) (map forth cs) ≡ false
  not_again c cs h =
      list_any-map (same_cell (forth c)) forth cs
      ∙ list_any-alike (λ b. same_cell (forth c) (forth b)) (same_cell c) (λ b. same_cell-forth forth back undo (forth c) b ∙ ap (λ a. same_cell a b) (undo.there c)) cs
      ∙ none_below c cs h

  weights_once : (k x : ℕ) (cs : List Cell) → T (is_rising cs) → live_value (among (map forth cs) k x) ≡ weights k (map forth cs) x
  weights_once k x [] h = refl
  weights_once k x (c ∷ cs) h =
      one_cell_more k x (forth c) (map forth cs) (not_again c cs (first_holds _ _ h)) (weights_once k x cs (second_holds (below_all c cs) _ h))

  pub weights_once-lt : (k x : ℕ) (cs : List Cell) → T (is_rising cs) → weights k (map forth cs) x < 32
  weights_once-lt k x cs h =
      let e = weights_once k x cs h in
      let s = live_value-lt (among (map forth cs) k x) in
      omega arith

-- ---- cells as a map takes them, seen from a corner

abbrev back_from : Orientation → Frame → Cell → Cell
back_from m f q = turn (undone m) (plus q (opposite (opposite (f.left, f.top))))

placed_inverse : (m : Orientation) (f : Frame) → AreInverse (cell_in_frame m f) (back_from m f)
placed_inverse m f =
    let k = opposite (f.left, f.top) in
    record {
      there = λ c. ap (turn (undone m)) (plus-opposite (turn m c) k) ∙ turn-undone m c;
      here = λ q. ap (λ b. plus b k) ((turn_keeps m).inverse.here (plus q (opposite k))) ∙ plus-opposite_first q k;
    }

module _ (cs : List Cell) (m : Orientation) (f : Frame) where
  contains-placed : (q : Cell) → contains (translate_of (image_under (from_list cs) m) (opposite (f.left, f.top))) q ≡ list_any (same_cell q) (map (cell_in_frame m f) cs)
  contains-placed q =
      let G = from_list cs in
      contains-moved (image_under G m) (opposite (f.left, f.top)) q
      ∙ contains-turned G m (plus q (opposite (opposite (f.left, f.top))))
      ∙ contains-from_list cs (back_from m f q)
      ∙ list_any-alike (same_cell (back_from m f q)) (λ c. same_cell q (cell_in_frame m f c)) (λ c. sym (same_cell-forth (cell_in_frame m f) (back_from m f) (placed_inverse m f) q c)) cs
      ∙ sym (list_any-map (same_cell q) (cell_in_frame m f) cs)

  pub contains-normal_placed : Framed (image_under (from_list cs) m) f → (q : Cell) → contains (normal (image_under (from_list cs) m)) q ≡ list_any (same_cell q) (map (cell_in_frame m f) cs)
  unfolding normal
  contains-normal_placed h q =
      ap (λ k. contains (translate_of (image_under (from_list cs) m) (opposite k)) q) (corner_framed (image_under (from_list cs) m) f h) ∙ contains-placed q

  pub column-placed : Framed (image_under (from_list cs) m) f → T (is_rising cs) → (k x : ℕ) → weights k (map (cell_in_frame m f) cs) x ≡ column_value (normal (image_under (from_list cs) m)) k x
  column-placed h rising k x =
      sym (weights_once (cell_in_frame m f) (back_from m f) (placed_inverse m f) k x cs rising)
      ∙ ap (λ (live : ℕ → Bool). live_value live) (λ i j. sym (contains-normal_placed h (pos x, pos (5 * k + j))) i)

  pub placed-lt : T (is_rising cs) → (k x : ℕ) → weights k (map (cell_in_frame m f) cs) x < 32
  placed-lt rising k x = weights_once-lt (cell_in_frame m f) (back_from m f) (placed_inverse m f) k x cs rising

-- ---- the columns of the mirror image

from_other_side : (x : ℕ) (left right : ℤ) → left ≤ℤ right → x < nat_abs (right -ℤ left) + 1 → neg_ℤ (pos x +ℤ neg_ℤ right) ≡ pos (nat_abs (right -ℤ left) + 1 - 1 - x) +ℤ left
from_other_side x left right o h = omega (arith, ints)

module _ (G : Generation) (f : Frame) (h : Framed G f) where
  contains-mirror : (x y : ℕ) → x < wide_of f → contains (normal (image_under G FlipX)) (pos x, pos y) ≡ contains (normal G) (pos (wide_of f - 1 - x), pos y)
  contains-mirror x y inside =
      contains-normal (image_under G FlipX) (pos x, pos y)
      ∙ ap (λ k. contains (image_under G FlipX) (plus (pos x, pos y) k)) (corner_framed (image_under G FlipX) (turned_frame FlipX f) (framed_turned G f FlipX h))
      ∙ contains-turned G FlipX (plus (pos x, pos y) (neg_ℤ f.right, f.top))
      ∙ ap (λ z. contains G (z, pos y +ℤ f.top)) (from_other_side x f.left f.right (range_ordered (λ c. c.0) G _ _ h.across) inside)
      ∙ ap (λ k. contains G (plus (pos (wide_of f - 1 - x), pos y) k)) (sym (corner_framed G f h))
      ∙ sym (contains-normal G (pos (wide_of f - 1 - x), pos y))

  pub column-mirror : (k x : ℕ) → x < wide_of f → column_value (normal (image_under G FlipX)) k x ≡ column_value (normal G) k (wide_of f - 1 - x)
  column-mirror k x inside = ap (λ (live : ℕ → Bool). live_value live) (λ i j. contains-mirror x (5 * k + j) inside i)

-- ---- strips

same_texts : (f g : ℕ → List ℕ) (n a : ℕ) → ((k : ℕ) → k < a + n → f k ≡ g k) → map f (range_with_len a n) ≡ map g (range_with_len a n)
same_texts f g zero a e = refl
same_texts f g (suc n) a e =
    λ i. e a (let first : a < a + suc n = omega arith in first) i ∷ same_texts f g n (a + 1) (λ k h. e k (omega arith)) i

same_strips : (f g : ℕ → List ℕ) (n : ℕ) → ((k : ℕ) → k < n → f k ≡ g k) → strips_text f n ≡ strips_text g n
same_strips f g zero e = refl
same_strips f g (suc n) e = ap (join_with_byte 122) (same_texts f g (suc n) 0 (λ k h. e k (omega arith)))

strip_ends : (k strips wide : ℕ) → k < strips → k * wide + wide ≤ strips * wide
strip_ends k strips wide h = let more = mul-le-mul_right wide h in omega arith

module _ (values : List ℕ) (wide strips : ℕ) (room : length values ≡ strips * wide) where
  pub length-strip_of : (k : ℕ) → k < strips → length (strip_of values wide k) ≡ wide
  length-strip_of k h =
      let ends = strip_ends k strips wide h in
      let a = length-take {A = ℕ} wide (drop (k * wide) values) in
      let b = length-drop {A = ℕ} (k * wide) values in
      omega arith

  get_or-strip_of : (k x : ℕ) → x < wide → get_or (strip_of values wide k) x 0 ≡ get_or values (k * wide + x) 0
  get_or-strip_of k x h = get_or-take wide (drop (k * wide) values) x 0 h ∙ get_or-drop (k * wide) values x 0

  module _ (v : ℕ → ℕ → ℕ) (held : (k x : ℕ) → k < strips → x < wide → get_or values (k * wide + x) 0 ≡ v k x) where
    strip_forward : (k : ℕ) → k < strips → strip_of values wide k ≡ map (v k) (range_with_len 0 wide)
    strip_forward k h =
        let long = length-strip_of k h in
        let same = length-map-range_with_len (v k) 0 wide in
        same_number_lists _ _ (omega arith)
        (λ x l. let inside : x < wide = omega arith in get_or-strip_of k x inside ∙ held k x h inside ∙ sym (get_or-map-range_with_len (v k) 0 wide x x 0 inside (omega arith)))

    strip_backward : (u : ℕ → ℕ → ℕ) → ((k x : ℕ) → x < wide → u k x ≡ v k (wide - 1 - x)) → (k : ℕ) → k < strips → reverse (strip_of values wide k) ≡ map (u k) (range_with_len 0 wide)
    strip_backward u turned_round k h =
        let row = strip_of values wide k in
        let long = length-strip_of k h in
        let turned_long = length-reverse row in
        let same = length-map-range_with_len (u k) 0 wide in
        same_number_lists _ _ (omega arith)
        (λ x l.
        let inside : x < wide = omega arith in
        let other : length row - 1 - x < wide = omega arith in
        let there : length row - 1 - x ≡ wide - 1 - x = omega arith in
        get_or-reverse row x 0 (omega arith) ∙ get_or-strip_of k _ other ∙ held k _ h other
        ∙ ap (v k) there ∙ sym (turned_round k x inside)
        ∙ sym (get_or-map-range_with_len (u k) 0 wide x x 0 inside (omega arith)))

-- ---- the two texts of a grid

pub strip_number : (G : Generation) (f : Frame) → Framed G f → strips_of f ≡ (height G + 4) / 5
strip_number G f h = let e = height_framed G f h in let same : nat_abs (f.bottom -ℤ f.top) + 5 ≡ height G + 4 = omega arith in ap (λ n. n / 5) same

module _ (cs : List Cell) (m : Orientation) (f : Frame) (h : Framed (image_under (from_list cs) m) f) (rising : T (is_rising cs)) (values : List ℕ) (room : length values ≡ strips_of f * wide_of f) (held : HoldsWeights values (wide_of f) (strips_of f) (map (cell_in_frame m f) cs)) where
  columns_held : (k x : ℕ) → k < strips_of f → x < wide_of f → get_or values (k * wide_of f + x) 0 ≡ column_value (normal (image_under (from_list cs) m)) k x
  columns_held k x a b = held.each k x a b ∙ column-placed cs m f h rising k x

  pub text_forward : grid_text values (wide_of f) (strips_of f) false ≡ body (image_under (from_list cs) m)
  unfolding body
  text_forward =
      let G = image_under (from_list cs) m in
      same_strips _ _ (strips_of f) (λ k a. ap (columns_text 0) (strip_forward values (wide_of f) (strips_of f) room (column_value (normal G)) columns_held k a))
      ∙ (λ i. strips_text (strip_text (normal G) (sym (width_framed G f h) i)) (strip_number G f h i))

  pub text_backward : grid_text values (wide_of f) (strips_of f) true ≡ body (image_under (image_under (from_list cs) m) FlipX)
  unfolding body
  text_backward =
      let G = image_under (from_list cs) m in
      let M = image_under G FlipX in
      let g = turned_frame FlipX f in
      let there = framed_turned G f FlipX h in
      let order = range_ordered (λ c. c.0) G _ _ h.across in
      let wide : wide_of f ≡ wide_of g = omega (arith, ints) in
      same_strips _ _ (strips_of f)
      (λ k a. ap (columns_text 0) (strip_backward values (wide_of f) (strips_of f) room (column_value (normal G)) columns_held (column_value (normal M)) (column-mirror G f h) k a))
      ∙ (λ i. strips_text (strip_text (normal M) ((wide ∙ sym (width_framed M g there)) i)) (strip_number M g there i))

-- ---- what is asked of cells and of grids

pub cells_inside : (cs : List Cell) (m : Orientation) (f : Frame) → Framed (image_under (from_list cs) m) f → All (λ c. IsInFrame f (turn m c)) cs
cells_inside cs m f h =
    All-from_recursion (λ c. IsInFrame f (turn m c)) cs
    (all_from (λ c. IsInFrame f (turn m c)) cs (λ c e.
    in_frame (image_under (from_list cs) m) f h (turn m c)
    (contains-turned (from_list cs) m (turn m c) ∙ ap (contains (from_list cs)) (turn-undone m c) ∙ contains-from_list cs c ∙ e)))

pub framed_cells : (cs : List Cell) (m : Orientation) (f g : Frame) → 0 < length cs → f ≡ frame_of cs → g ≡ turned_frame m f → Framed (image_under (from_list cs) m) g
framed_cells cs m f g some e h =
    subst (Framed (image_under (from_list cs) m)) (sym (h ∙ ap (turned_frame m) e)) (framed_turned (from_list cs) (frame_of cs) m (framed_of cs some))

pub small_values : (values : List ℕ) (wide strips : ℕ) (ds : List Cell) → 0 < wide → length values ≡ strips * wide → HoldsWeights values wide strips ds → ((k x : ℕ) → weights k ds x < 32) → All (λ v. v < 36) values
small_values values wide strips ds some room held small n d h =
    let inside : n < strips * wide = omega arith in
    let strip = (div-lt_iff_lt-mul some).1 inside in
    let column = mod-lt n some in
    let at : n / wide * wide + n % wide ≡ n = div-add-mod' n wide in
    let value = held.each (n / wide) (n % wide) strip column in
    let less = small (n / wide) (n % wide) in
    let here = ap (λ i. get_or values i 0) at in
    let same = get_or_default_zero values n d h in
    omega arith
