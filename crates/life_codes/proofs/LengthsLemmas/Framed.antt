-- The frame of a set: no cell is beyond it, and each of its sides is reached. What the eight maps make of it.
use Rattle.std.proofs.Common.{◌≡◌, ℕ, zero, suc, ◌+◌, ◌<◌, ◌≤◌, ℤ, pos, neg_ℤ, ◌+ℤ◌, ◌-ℤ◌, ◌≤ℤ◌, ◌<ℤ◌, negsuc, true, List, [], ◌∷◌, map, length, get_or, take, inl, inr, ◌⊎◌, sym, refl, ap, subst, ◌∙◌, arith}
use Rattle.std.specs.Prelude.{All, nat_abs, fold, Contains}
use Rattle.std.specs.List.{list_any, AllByRecursion}
use Rattle.std.proofs.lemmas.Bool.{or_left, or_right}
use Rattle.std.proofs.lemmas.Int.{ints, fold-int_min_bounds, fold-int_min_reached, fold-int_max_bounds, fold-int_max_reached}
use Rattle.std.proofs.lemmas.List.{take_more, map-append, get_or-map, length-map}
use Rattle.std.proofs.lemmas.List.Sums.{fold-append}
use Rattle.std.proofs.lemmas.List.Elements.{recursion_from_All}
use Rattle.std.proofs.Math.Nat.{le_antisymm}
use Rattle.life_model.specs.Cell.{Cell, same_cell, origin, plus, opposite}
use Rattle.life_model.specs.Generation.{Generation, contains, from_list}
use Rattle.life_model.specs.Symmetry.{corner, Orientation, Same, FlipX, FlipY, Half, Swap, SwapFlipX, SwapFlipY, SwapHalf, turn, image_under}
use Rattle.life_model.specs.Box.{width, height}
use Rattle.life_model.proofs.Cells.{same_cell-is}
use Rattle.life_model.proofs.Generations.{contains-from_list}
use Rattle.life_model.proofs.Symmetries.{undone, turn-undone, turn_keeps, contains-turned}
use Rattle.life_model.proofs.Moves.{corner-is, corner_one}
use Rattle.life_cells.specs.Limits.{IsPlace, coordinate_limit}
use Rattle.life_cells.proofs.Boxes.{normal_in_box, contains-normal_back, width_within, height_within}
use Rattle.life_cells.proofs.Members.{holds_in}
use Rattle.life_codes.specs.declared.lengths.frame.Frame.{Frame}
use Rattle.life_codes.specs.Lengths.Frames.{least_at, greatest_at, frame_of, turned_frame, IsInFrame, IsBounded, wide_of}

-- ---- the least and the greatest of some places

pub fold_more : {B : Type 0} (op : B → B → B) (g : Cell → B) (a : B) (cs : List Cell) (i : ℕ) (d : Cell) → i < length cs → fold op a (map g (take (i + 1) cs)) ≡ op (fold op a (map g (take i cs))) (g (get_or cs i d))
fold_more op g a cs i d h =
    ap (λ bs. fold op a (map g bs)) (take_more cs i d h)
    ∙ ap (fold op a) (map-append g (take i cs) (get_or cs i d ∷ []))
    ∙ fold-append op a (map g (take i cs)) (g (get_or cs i d) ∷ [])

-- no cell of a set is below or above, and both are reached
pub record Range (g : Cell → ℤ) (G : Generation) (low high : ℤ) : Type 0 where
  pub above : (c : Cell) → contains G c ≡ true → low ≤ℤ g c
  pub below : (c : Cell) → contains G c ≡ true → g c ≤ℤ high
  pub lowest : Cell
  pub lowest_in : contains G lowest ≡ true
  pub lowest_at : g lowest ≡ low
  pub highest : Cell
  pub highest_in : contains G highest ≡ true
  pub highest_at : g highest ≡ high

member_at : (cs : List Cell) (k : ℕ) → k < length cs → list_any (same_cell (get_or cs k origin)) cs ≡ true
member_at [] k h = absurd (omega arith)
member_at (c ∷ cs) zero h = or_left _ _ ((same_cell-is c c).1 refl)
member_at (c ∷ cs) (suc k) h = or_right _ _ (member_at cs k (omega arith))

module _ (g : Cell → ℤ) where
  of_places : (P : ℤ → Type 0) (cs : List Cell) → AllByRecursion P (map g cs) → AllByRecursion (λ c. P (g c)) cs
  of_places P [] all = tt
  of_places P (c ∷ cs) all = (all.0, of_places P cs all.1)

  each_place : (P : ℤ → Type 0) (cs : List Cell) → All P (map g cs) → (c : Cell) → contains (from_list cs) c ≡ true → P (g c)
  each_place P cs all c h = holds_in (λ b. P (g b)) cs (of_places P cs (recursion_from_All P (map g cs) all)) c (sym (contains-from_list cs c) ∙ h)

  reached : (cs : List Cell) (r : ℤ) → 0 < length cs → (r ≡ g (get_or cs 0 origin)) ⊎ Contains (map g cs) r → (c : Cell) × (contains (from_list cs) c ≡ true) × (g c ≡ r)
  reached cs r some (inl e) = (get_or cs 0 origin, contains-from_list cs _ ∙ member_at cs 0 some, sym e)
  reached cs r some (inr w) =
      let inside : w.0 < length cs = omega (arith, w.1, length-map {A = Cell} {B = ℤ}) in
      (get_or cs w.0 origin, contains-from_list cs _ ∙ member_at cs w.0 inside, sym (get_or-map g cs w.0 origin r inside) ∙ w.2)

  pub range_of : (cs : List Cell) → 0 < length cs → Range g (from_list cs) (least_at g cs) (greatest_at g cs)
  range_of cs some =
      let a = g (get_or cs 0 origin) in
      let low = reached cs (least_at g cs) some (fold-int_min_reached a (map g cs) _ refl) in
      let high = reached cs (greatest_at g cs) some (fold-int_max_reached a (map g cs) _ refl) in
      record {
        above = each_place (λ z. least_at g cs ≤ℤ z) cs (fold-int_min_bounds a (map g cs) _ refl).1;
        below = each_place (λ z. z ≤ℤ greatest_at g cs) cs (fold-int_max_bounds a (map g cs) _ refl).1;
        lowest = low.0;
        lowest_in = low.1;
        lowest_at = low.2;
        highest = high.0;
        highest_in = high.1;
        highest_at = high.2;
      }

  pub range_turned : (G : Generation) (m : Orientation) (low high : ℤ) → Range (λ c. g (turn m c)) G low high → Range g (image_under G m) low high
  range_turned G m low high r = record {
    above = λ c h. subst (λ d. low ≤ℤ g d) ((turn_keeps m).inverse.here c) (r.above (turn (undone m) c) (sym (contains-turned G m c) ∙ h));
    below = λ c h. subst (λ d. g d ≤ℤ high) ((turn_keeps m).inverse.here c) (r.below (turn (undone m) c) (sym (contains-turned G m c) ∙ h));
    lowest = turn m r.lowest;
    lowest_in = contains-turned G m (turn m r.lowest) ∙ ap (contains G) (turn-undone m r.lowest) ∙ r.lowest_in;
    lowest_at = r.lowest_at;
    highest = turn m r.highest;
    highest_in = contains-turned G m (turn m r.highest) ∙ ap (contains G) (turn-undone m r.highest) ∙ r.highest_in;
    highest_at = r.highest_at;
  }

  turned_round_low : (z high : ℤ) → z ≤ℤ high → neg_ℤ high ≤ℤ neg_ℤ z
  turned_round_low z high h = omega (arith, ints)

  pub range_negated : (G : Generation) (low high : ℤ) → Range g G low high → Range (λ c. neg_ℤ (g c)) G (neg_ℤ high) (neg_ℤ low)
  range_negated G low high r = record {
    above = λ c h. turned_round_low (g c) high (r.below c h);
    below = λ c h. turned_round_low low (g c) (r.above c h);
    lowest = r.highest;
    lowest_in = r.highest_in;
    lowest_at = ap neg_ℤ r.highest_at;
    highest = r.lowest;
    highest_in = r.lowest_in;
    highest_at = ap neg_ℤ r.lowest_at;
  }

-- ---- frames

pub record Framed (G : Generation) (f : Frame) : Type 0 where
  pub across : Range (λ c. c.0) G f.left f.right
  pub down : Range (λ c. c.1) G f.top f.bottom

pub framed_of : (cs : List Cell) → 0 < length cs → Framed (from_list cs) (frame_of cs)
framed_of cs some = record { across = range_of (λ c. c.0) cs some; down = range_of (λ c. c.1) cs some }

pub framed_turned : (G : Generation) (f : Frame) (m : Orientation) → Framed G f → Framed (image_under G m) (turned_frame m f)
framed_turned G f Same h = record {
  across = range_turned (λ c. c.0) G Same _ _ h.across;
  down = range_turned (λ c. c.1) G Same _ _ h.down;
}
framed_turned G f FlipX h = record {
  across = range_turned (λ c. c.0) G FlipX _ _ (range_negated (λ c. c.0) G _ _ h.across);
  down = range_turned (λ c. c.1) G FlipX _ _ h.down;
}
framed_turned G f FlipY h = record {
  across = range_turned (λ c. c.0) G FlipY _ _ h.across;
  down = range_turned (λ c. c.1) G FlipY _ _ (range_negated (λ c. c.1) G _ _ h.down);
}
framed_turned G f Half h = record {
  across = range_turned (λ c. c.0) G Half _ _ (range_negated (λ c. c.0) G _ _ h.across);
  down = range_turned (λ c. c.1) G Half _ _ (range_negated (λ c. c.1) G _ _ h.down);
}
framed_turned G f Swap h = record {
  across = range_turned (λ c. c.0) G Swap _ _ h.down;
  down = range_turned (λ c. c.1) G Swap _ _ h.across;
}
framed_turned G f SwapFlipX h = record {
  across = range_turned (λ c. c.0) G SwapFlipX _ _ (range_negated (λ c. c.1) G _ _ h.down);
  down = range_turned (λ c. c.1) G SwapFlipX _ _ h.across;
}
framed_turned G f SwapFlipY h = record {
  across = range_turned (λ c. c.0) G SwapFlipY _ _ h.down;
  down = range_turned (λ c. c.1) G SwapFlipY _ _ (range_negated (λ c. c.0) G _ _ h.across);
}
framed_turned G f SwapHalf h = record {
  across = range_turned (λ c. c.0) G SwapHalf _ _ (range_negated (λ c. c.1) G _ _ h.down);
  down = range_turned (λ c. c.1) G SwapHalf _ _ (range_negated (λ c. c.0) G _ _ h.across);
}

pub in_frame : (G : Generation) (f : Frame) → Framed G f → (c : Cell) → contains G c ≡ true → IsInFrame f c
in_frame G f h c e = record { left = h.across.above c e; right = h.across.below c e; above = h.down.above c e; below = h.down.below c e }

-- ---- its corner, its width and its height

pub corner_framed : (G : Generation) (f : Frame) → Framed G f → corner G ≡ (f.left, f.top)
corner_framed G f h =
    corner_one G (corner G) (f.left, f.top) (corner-is G h.across.lowest h.across.lowest_in)
    (record {
      left = h.across.above;
      above = h.down.above;
      leftmost = h.across.lowest;
      leftmost_in = h.across.lowest_in;
      leftmost_at = h.across.lowest_at;
      topmost = h.down.lowest;
      topmost_in = h.down.lowest_in;
      topmost_at = h.down.lowest_at;
    })

within_size : (z low high : ℤ) → low ≤ℤ z → z ≤ℤ high → z <ℤ (low +ℤ pos (nat_abs (high -ℤ low) + 1))
within_size z low high h k = omega (arith, ints)

size_within : (z k low high : ℤ) (n : ℕ) → low ≤ℤ high → z ≡ high → k ≡ low → (z +ℤ neg_ℤ k) <ℤ pos n → nat_abs (high -ℤ low) + 1 ≤ n
size_within z k low high n o e f h = omega (arith, ints)

pub range_ordered : (g : Cell → ℤ) (G : Generation) (low high : ℤ) → Range g G low high → low ≤ℤ high
range_ordered g G low high r = subst (λ z. z ≤ℤ high) r.lowest_at (r.below r.lowest r.lowest_in)

pub width_framed : (G : Generation) (f : Frame) → Framed G f → width G ≡ wide_of f
width_framed G f h =
    let w = h.across.highest in
    le_antisymm
    (width_within G f.left (wide_of f) (λ c e. (h.across.above c e, within_size c.0 f.left f.right (h.across.above c e) (h.across.below c e))))
    (size_within w.0 (corner G).0 f.left f.right (width G) (range_ordered (λ c. c.0) G _ _ h.across) h.across.highest_at (ap (λ c. c.0) (corner_framed G f h))
    (normal_in_box G (plus w (opposite (corner G))) (contains-normal_back G w ∙ h.across.highest_in)).right)

pub height_framed : (G : Generation) (f : Frame) → Framed G f → height G ≡ nat_abs (f.bottom -ℤ f.top) + 1
height_framed G f h =
    let w = h.down.highest in
    le_antisymm
    (height_within G f.top (nat_abs (f.bottom -ℤ f.top) + 1) (λ c e. (h.down.above c e, within_size c.1 f.top f.bottom (h.down.above c e) (h.down.below c e))))
    (size_within w.1 (corner G).1 f.top f.bottom (height G) (range_ordered (λ c. c.1) G _ _ h.down) h.down.highest_at (ap (λ c. c.1) (corner_framed G f h))
    (normal_in_box G (plus w (opposite (corner G))) (contains-normal_back G w ∙ h.down.highest_in)).below)

-- ---- a frame of cells of a list of cells

pub bounded_by : (G : Generation) (f : Frame) → Framed G f → ((c : Cell) → contains G c ≡ true → IsPlace c) → IsBounded f
bounded_by G f h each =
    let l = each h.across.lowest h.across.lowest_in in
    let r = each h.across.highest h.across.highest_in in
    let t = each h.down.lowest h.down.lowest_in in
    let b = each h.down.highest h.down.highest_in in
    let a1 = h.across.lowest_at in
    let a2 = h.across.highest_at in
    let d1 = h.down.lowest_at in
    let d2 = h.down.highest_at in
    let across = range_ordered (λ c. c.0) G _ _ h.across in
    let down = range_ordered (λ c. c.1) G _ _ h.down in
    record {
      left = subst (λ z. negsuc 16777215 ≤ℤ z) a1 l.left;
      across = across;
      right = below_place _ (subst (λ z. z ≤ℤ pos 16777215) a2 r.right);
      top = subst (λ z. negsuc 16777215 ≤ℤ z) d1 t.above;
      down = down;
      bottom = below_place _ (subst (λ z. z ≤ℤ pos 16777215) d2 b.below);
    }
  where
    below_place : (z : ℤ) → z ≤ℤ pos 16777215 → z ≤ℤ pos coordinate_limit
    below_place z h = omega (arith, ints)

pub frame_bounded : (cs : List Cell) → 0 < length cs → All IsPlace cs → IsBounded (frame_of cs)
frame_bounded cs some all =
    bounded_by (from_list cs) (frame_of cs) (framed_of cs some)
    (λ c h. holds_in IsPlace cs (recursion_from_All IsPlace cs all) c (sym (contains-from_list cs c) ∙ h))
