-- The bounding box of a set, and where the cells of a normal form are.
use Rattle.std.proofs.Common.{◌≡◌, ℕ, length, get_or, take, ◌+◌, ◌<◌, ◌≤◌, ℤ, pos, negsuc, neg_ℤ, ◌+ℤ◌, ◌≤ℤ◌, ◌<ℤ◌, true, List, [], ◌∷◌, map, sym, refl, ap, subst, ◌∙◌, arith}
use Rattle.std.specs.Prelude.{All, nat_abs, max}
use Rattle.std.specs.List.{AllByRecursion}
use Rattle.std.proofs.lemmas.Int.{ints}
use Rattle.std.proofs.lemmas.List.Elements.{All-from_recursion, All-map, All-weaker}
use Rattle.std.proofs.lemmas.List.{take_all, take_more}
use Rattle.std.proofs.lemmas.List.Recursion.{max_push}
use Rattle.life_model.specs.Box.{extent, width, height}
use Rattle.life_model.specs.Cell.{Cell, origin, plus, opposite}
use Rattle.life_model.specs.Generation.{Generation, contains, cells, from_list}
use Rattle.life_model.specs.Symmetry.{IsCorner, corner, corner_of, normal, Orientation, Same, FlipX, FlipY, Half, Swap, SwapFlipX, SwapFlipY, SwapHalf, turn, image_under, image}
use Rattle.life_model.proofs.Lists.{cells-moved}
use Rattle.life_model.proofs.Cells.{pair, plus-opposite_first}
use Rattle.life_model.proofs.Generations.{contains-cells}
use Rattle.life_model.proofs.Symmetries.{contains-moved, contains-turned, undone}
use Rattle.life_model.proofs.Moves.{corner-is, normal-corner, normal-moved}
use Rattle.life_model.proofs.Boxes.{below_extent}
use Rattle.life_cells.specs.Limits.{IsPlace, IsWithin, extent_limit, place_limit}
use Rattle.life_cells.specs.Dots.{IsInField}
use Rattle.life_cells.specs.NormalForms.{IsAhead}
use Rattle.life_cells.proofs.Members.{member_has, all_members}

-- ---- the greatest of some places

both_within : (b c n : ℕ) → b < n → c ≤ n → max (b + 1) c ≤ n
both_within b c n h k = omega arith

module _ (f : Cell → ℤ) where
  pub extent_within : (cs : List Cell) (n : ℕ) → AllByRecursion (λ c. nat_abs (f c) < n) cs → extent (map (λ b. nat_abs (f b)) cs) ≤ n
  extent_within [] n h = omega arith
  extent_within (d ∷ ds) n h = both_within _ _ _ h.0 (extent_within ds n h.1)

  pub extent_more : (cs : List Cell) (i : ℕ) (d : Cell) → i < length cs → extent (map (λ b. nat_abs (f b)) (take (i + 1) cs)) ≡ max (extent (map (λ b. nat_abs (f b)) (take i cs))) (nat_abs (f (get_or cs i d)) + 1)
  extent_more cs i d h =
      ap (λ bs. extent (map (λ b. nat_abs (f b)) bs)) (take_more cs i d h)
      ∙ max_push (λ bs. extent (map (λ b. nat_abs (f b)) bs)) (λ b. nat_abs (f b) + 1) refl (λ b bs. refl) (take i cs) (get_or cs i d)

-- ---- the places of a normal form

-- where a cell of a normal form is
pub record IsInBox (G : Generation) (c : Cell) : Type 0 where
  pub left : pos 0 ≤ℤ c.0
  pub right : c.0 <ℤ pos (width G)
  pub above : pos 0 ≤ℤ c.1
  pub below : c.1 <ℤ pos (height G)

below_size : (z : ℤ) (n : ℕ) → pos 0 ≤ℤ z → nat_abs z < n → z <ℤ pos n
below_size z n h k = omega (arith, ints)

pub normal_normal : (G : Generation) → normal (normal G) ≡ normal G
unfolding normal
normal_normal G = normal-moved G (opposite (corner G))

pub normal_at_origin : (G : Generation) (c : Cell) → contains (normal G) c ≡ true → IsCorner (normal G) origin
normal_at_origin G c h = subst (λ N. IsCorner N origin) (normal_normal G) (normal-corner (normal G) c h)

pub normal_in_box : (G : Generation) (c : Cell) → contains (normal G) c ≡ true → IsInBox G c
unfolding width height
normal_in_box G c h =
    let k = normal_at_origin G c h in
    let listed = sym (contains-cells (normal G) c) ∙ h in
    record {
      left = k.left c h;
      right = below_size _ _ (k.left c h) (below_extent (λ b. nat_abs b.0) (cells (normal G)) c listed);
      above = k.above c h;
      below = below_size _ _ (k.above c h) (below_extent (λ b. nat_abs b.1) (cells (normal G)) c listed);
    }

plus-opposite_opposite : (k c : Cell) → plus c (opposite (opposite k)) ≡ plus c k
plus-opposite_opposite k c = pair (omega (arith, ints)) (omega (arith, ints))

pub contains-normal : (G : Generation) (c : Cell) → contains (normal G) c ≡ contains G (plus c (corner G))
unfolding normal
contains-normal G c = contains-moved G (opposite (corner G)) c ∙ ap (contains G) (plus-opposite_opposite (corner G) c)

-- the cell's place in the normal form
pub contains-normal_back : (G : Generation) (c : Cell) → contains (normal G) (plus c (opposite (corner G))) ≡ contains G c
contains-normal_back G c = contains-normal G (plus c (opposite (corner G))) ∙ ap (contains G) (plus-opposite_first c (corner G))

-- ---- sets whose cells lie close together

size_below : (x k least low : ℤ) (n : ℕ) → pos 0 ≤ℤ x → least ≡ k → low ≤ℤ least → (x +ℤ k) <ℤ (low +ℤ pos n) → nat_abs x < n
size_below x k least low n h e l b = omega (arith, ints)

pub width_within : (G : Generation) (low : ℤ) (n : ℕ) → ((c : Cell) → contains G c ≡ true → (low ≤ℤ c.0) × (c.0 <ℤ (low +ℤ pos n))) → width G ≤ n
unfolding width
width_within G low n h =
    extent_within (λ b. b.0) (cells (normal G)) n
    (all_members (λ c. nat_abs c.0 < n) (normal G) (λ c e.
    let there = sym (contains-normal G c) ∙ e in
    let k = corner-is G (plus c (corner G)) there in
    size_below c.0 (corner G).0 k.leftmost.0 low n (normal_in_box G c e).left k.leftmost_at (h k.leftmost k.leftmost_in).0 (h (plus c (corner G)) there).1))

pub height_within : (G : Generation) (low : ℤ) (n : ℕ) → ((c : Cell) → contains G c ≡ true → (low ≤ℤ c.1) × (c.1 <ℤ (low +ℤ pos n))) → height G ≤ n
unfolding height
height_within G low n h =
    extent_within (λ b. b.1) (cells (normal G)) n
    (all_members (λ c. nat_abs c.1 < n) (normal G) (λ c e.
    let there = sym (contains-normal G c) ∙ e in
    let k = corner-is G (plus c (corner G)) there in
    size_below c.1 (corner G).1 k.topmost.1 low n (normal_in_box G c e).above k.topmost_at (h k.topmost k.topmost_in).0 (h (plus c (corner G)) there).1))

-- the bounding box of cells on a plane of this age
within_age : (z : ℤ) (a : ℕ) → z ≤ℤ pos (1048575 + a) → z <ℤ (neg_ℤ (pos a) +ℤ pos (place_limit + (a + a)))
within_age z a h = omega (arith, ints)

pub width_at_age : (G : Generation) (a : ℕ) → All (IsWithin a) (cells G) → width G ≤ place_limit + (a + a)
width_at_age G a all =
    width_within G (neg_ℤ (pos a)) _ (λ c e. let w = member_has (IsWithin a) G all c e in (w.left, within_age c.0 a w.right))

pub height_at_age : (G : Generation) (a : ℕ) → All (IsWithin a) (cells G) → height G ≤ place_limit + (a + a)
height_at_age G a all =
    height_within G (neg_ℤ (pos a)) _ (λ c e. let w = member_has (IsWithin a) G all c e in (w.above, within_age c.1 a w.below))

-- ---- bounding boxes at most 16,777,216 wide and high

ahead : (z k : ℤ) (n : ℕ) → pos 0 ≤ℤ (z +ℤ neg_ℤ k) → (z +ℤ neg_ℤ k) <ℤ pos n → n ≤ extent_limit → (k ≤ℤ z) × (z ≤ℤ (k +ℤ pos 16777215))
ahead z k n h l b = (omega (arith, ints), omega (arith, ints))

pub cells_ahead : (G : Generation) → width G ≤ extent_limit → height G ≤ extent_limit → All (IsAhead (corner G)) (cells G)
cells_ahead G wide high =
    All-from_recursion (IsAhead (corner G)) (cells G)
    (all_members (IsAhead (corner G)) G (λ c e.
    let b = normal_in_box G (plus c (opposite (corner G))) (contains-normal_back G c ∙ e) in
    let x = ahead c.0 (corner G).0 (width G) b.left b.right wide in
    let y = ahead c.1 (corner G).1 (height G) b.above b.below high in
    record { left = x.0; right = x.1; above = y.0; below = y.1 }))

placed : (z : ℤ) (n : ℕ) → pos 0 ≤ℤ z → z <ℤ pos n → n ≤ extent_limit → (negsuc 16777215 ≤ℤ z) × (z ≤ℤ pos 16777215)
placed z n h l b = (omega (arith, ints), omega (arith, ints))

pub normal_placed : (G : Generation) → width G ≤ extent_limit → height G ≤ extent_limit → All IsPlace (cells (normal G))
normal_placed G wide high =
    All-from_recursion IsPlace (cells (normal G))
    (all_members IsPlace (normal G) (λ c e.
    let b = normal_in_box G c e in
    let x = placed c.0 (width G) b.left b.right wide in
    let y = placed c.1 (height G) b.above b.below high in
    record { left = x.0; right = x.1; above = y.0; below = y.1 }))

-- ---- what the code makes from the cells of a set

pub corner-cells : (G : Generation) (cs : List Cell) → cs ≡ cells G → corner_of cs ≡ corner G
unfolding corner
corner-cells G cs e = ap corner_of e

pub cells-normal : (G : Generation) (cs : List Cell) (k : Cell) (ds : List Cell) → cs ≡ cells G → k ≡ corner_of cs → ds ≡ map (λ c. plus c (opposite k)) cs → ds ≡ cells (normal G)
unfolding normal
cells-normal G cs k ds e f h =
    h ∙ ap (λ bs. map (λ c. plus c (opposite k)) bs) e ∙ ap (λ l. map (λ c. plus c (opposite l)) (cells G)) (f ∙ corner-cells G cs e)
    ∙ sym (cells-moved G (opposite (corner G)))

-- ---- shapes, and what the maps make from them

in_field : (N : Generation) → normal N ≡ N → All IsPlace (cells N) → (c : Cell) → contains N c ≡ true → IsInField c
in_field N e all c h =
    let b = normal_in_box N c (ap (λ G. contains G c) e ∙ h) in
    let p = member_has IsPlace N all c h in
    record { left = b.left; right = p.right; above = b.above; below = p.below }

pub all_in_field : (N : Generation) (cs : List Cell) → normal N ≡ N → cs ≡ cells N → All IsPlace cs → All IsInField cs
all_in_field N cs e f all =
    subst (All IsInField) (sym f) (All-from_recursion IsInField (cells N) (all_members IsInField N (in_field N e (subst (All IsPlace) f all))))

turned_place : (m : Orientation) (c : Cell) → IsInField c → IsPlace (turn m c)
turned_place Same c h = record { left = omega (arith, ints); right = omega (arith, ints); above = omega (arith, ints); below = omega (arith, ints) }
turned_place FlipX c h = record { left = omega (arith, ints); right = omega (arith, ints); above = omega (arith, ints); below = omega (arith, ints) }
turned_place FlipY c h = record { left = omega (arith, ints); right = omega (arith, ints); above = omega (arith, ints); below = omega (arith, ints) }
turned_place Half c h = record { left = omega (arith, ints); right = omega (arith, ints); above = omega (arith, ints); below = omega (arith, ints) }
turned_place Swap c h = record { left = omega (arith, ints); right = omega (arith, ints); above = omega (arith, ints); below = omega (arith, ints) }
turned_place SwapFlipX c h = record { left = omega (arith, ints); right = omega (arith, ints); above = omega (arith, ints); below = omega (arith, ints) }
turned_place SwapFlipY c h = record { left = omega (arith, ints); right = omega (arith, ints); above = omega (arith, ints); below = omega (arith, ints) }
turned_place SwapHalf c h = record { left = omega (arith, ints); right = omega (arith, ints); above = omega (arith, ints); below = omega (arith, ints) }

pub all_turned : (m : Orientation) (cs ds : List Cell) → ds ≡ map (turn m) cs → All IsInField cs → All IsPlace ds
all_turned m cs ds e all =
    subst (All IsPlace) (sym e) (All-map IsPlace (turn m) cs (All-weaker IsInField (λ c. IsPlace (turn m c)) (turned_place m) cs all))

-- the least coordinate that a map may take such a cell to
abbrev reach : Orientation → Cell
reach Same = (pos 0, pos 0)
reach FlipX = (negsuc 16777214, pos 0)
reach FlipY = (pos 0, negsuc 16777214)
reach Half = (negsuc 16777214, negsuc 16777214)
reach Swap = (pos 0, pos 0)
reach SwapFlipX = (negsuc 16777214, pos 0)
reach SwapFlipY = (pos 0, negsuc 16777214)
reach SwapHalf = (negsuc 16777214, negsuc 16777214)

record IsReached (low c : Cell) : Type 0 where
  left : low.0 ≤ℤ c.0
  right : c.0 <ℤ (low.0 +ℤ pos extent_limit)
  above : low.1 ≤ℤ c.1
  below : c.1 <ℤ (low.1 +ℤ pos extent_limit)

reached : (m : Orientation) (c : Cell) → IsInField (turn (undone m) c) → IsReached (reach m) c
reached Same c h = record { left = omega (arith, ints); right = omega (arith, ints); above = omega (arith, ints); below = omega (arith, ints) }
reached FlipX c h = record { left = omega (arith, ints); right = omega (arith, ints); above = omega (arith, ints); below = omega (arith, ints) }
reached FlipY c h = record { left = omega (arith, ints); right = omega (arith, ints); above = omega (arith, ints); below = omega (arith, ints) }
reached Half c h = record { left = omega (arith, ints); right = omega (arith, ints); above = omega (arith, ints); below = omega (arith, ints) }
reached Swap c h = record { left = omega (arith, ints); right = omega (arith, ints); above = omega (arith, ints); below = omega (arith, ints) }
reached SwapFlipX c h = record { left = omega (arith, ints); right = omega (arith, ints); above = omega (arith, ints); below = omega (arith, ints) }
reached SwapFlipY c h = record { left = omega (arith, ints); right = omega (arith, ints); above = omega (arith, ints); below = omega (arith, ints) }
reached SwapHalf c h = record { left = omega (arith, ints); right = omega (arith, ints); above = omega (arith, ints); below = omega (arith, ints) }

turned_reached : (N : Generation) (m : Orientation) → normal N ≡ N → All IsPlace (cells N) → (c : Cell) → contains (image_under N m) c ≡ true → IsReached (reach m) c
turned_reached N m e all c h = reached m c (in_field N e all (turn (undone m) c) (sym (contains-turned N m c) ∙ h))

pub from_list-turned : (N : Generation) (m : Orientation) (cs ds : List Cell) → cs ≡ cells N → ds ≡ map (turn m) cs → from_list ds ≡ image_under N m
unfolding image
from_list-turned N m cs ds e f = ap from_list (f ∙ ap (λ bs. map (turn m) bs) e)

pub turned_width : (N : Generation) (m : Orientation) (cs : List Cell) → normal N ≡ N → cs ≡ cells N → All IsPlace cs → width (image_under N m) ≤ extent_limit
turned_width N m cs e f all =
    let r = turned_reached N m e (subst (All IsPlace) f all) in
    width_within (image_under N m) (reach m).0 extent_limit (λ c h. ((r c h).left, (r c h).right))

pub turned_height : (N : Generation) (m : Orientation) (cs : List Cell) → normal N ≡ N → cs ≡ cells N → All IsPlace cs → height (image_under N m) ≤ extent_limit
turned_height N m cs e f all =
    let r = turned_reached N m e (subst (All IsPlace) f all) in
    height_within (image_under N m) (reach m).1 extent_limit (λ c h. ((r c h).above, (r c h).below))

pub width_of_cells : (N G : Generation) (cs : List Cell) (i : ℕ) → normal N ≡ N → cs ≡ cells N → N ≡ G → length cs ≤ i → extent (map (λ c. nat_abs c.0) (take i cs)) ≡ width G
unfolding width
width_of_cells N G cs i e f g h =
    ap (λ bs. extent (map (λ c. nat_abs c.0) bs)) (take_all i cs h ∙ f) ∙ ap (λ M. extent (map (λ c. nat_abs c.0) (cells M))) (sym e ∙ ap normal g)

pub height_of_cells : (N G : Generation) (cs : List Cell) (i : ℕ) → normal N ≡ N → cs ≡ cells N → N ≡ G → length cs ≤ i → extent (map (λ c. nat_abs c.1) (take i cs)) ≡ height G
unfolding height
height_of_cells N G cs i e f g h =
    ap (λ bs. extent (map (λ c. nat_abs c.1) bs)) (take_all i cs h ∙ f) ∙ ap (λ M. extent (map (λ c. nat_abs c.1) (cells M))) (sym e ∙ ap normal g)
