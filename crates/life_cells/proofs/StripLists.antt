-- The cells of a shape, strip by strip.
use Rattle.std.proofs.Common.{◌≡◌, ℕ, zero, suc, ◌+◌, ◌-◌, ◌*◌, ◌/◌, ◌%◌, ◌<◌, ◌≤◌, min, ℤ, pos, ◌+ℤ◌, ◌≤ℤ◌, ◌<ℤ◌, T, List, [], ◌∷◌, length, get_or, take, drop, map, sym, ap, subst, ◌∙◌, arith, add-zero}
use Rattle.std.specs.Prelude.{All, nat_abs}
use Rattle.std.specs.List.{AllByRecursion}
use Rattle.std.specs.List.Sorted.{IsPermutation}
use Rattle.std.specs.Cmp.{int_ranks}
use Rattle.std.specs.Ordering.{int_cmp, ordering_then, is_lt, MatchOrdering}
use Rattle.std.specs.declared.cmp.Ordering.{Ordering}
use Rattle.std.specs.declared.cmp.Ordering.TheVariants.{Less, Equal, Greater}
use Rattle.std.proofs.lemmas.Int.{ints}
use Rattle.std.proofs.lemmas.Nat.{pow_pos}
use Rattle.std.proofs.lemmas.List.{get_or-drop, length-drop}
use Rattle.std.proofs.lemmas.List.Elements.{All-from_recursion, recursion_from_All, All-map, All-weaker}
use Rattle.std.proofs.lemmas.List.Sorted.{All-permutation, sum_by-IsPermutation}
use Rattle.std.proofs.lemmas.List.Sums.{sum_by-take-drop}
use Rattle.life_model.specs.Box.{width, height}
use Rattle.life_model.specs.Cell.{Cell, cell_cmp}
use Rattle.life_model.specs.Generation.{Generation, cells, contains, below_all, is_rising}
use Rattle.life_model.specs.Symmetry.{normal}
use Rattle.life_model.proofs.Tests.{first_holds, second_holds}
use Rattle.life_model.proofs.Moves.{le_le}
use Rattle.life_cells.specs.Limits.{extent_limit}
use Rattle.life_cells.specs.Wechsler.{column_value, strips_text, body}
use Rattle.life_cells.proofs.Members.{member_has, all_members}
use Rattle.life_cells.proofs.Boxes.{height_within, normal_in_box}
use Rattle.life_cells.specs.Dots.{weight, weights, dot, dots_value, IsInStrip, IsInField, IsLeftOf, values_text, strip_limit}
use Rattle.life_cells.proofs.Weights.{weight_above, weight_below, weights_nothing, weights_of_dots, column_value_is}

-- ---- lists in order

not_under : (a b : ℤ) (r s : Ordering) → MatchOrdering r (a <ℤ b) (a ≡ b) (b <ℤ a) → T (is_lt (ordering_then r s)) → a ≤ℤ b
not_under a b Less s m h = omega (arith, ints)
not_under a b Equal s m h = omega (arith, ints)
not_under a b Greater s m h = absurd h

less_not_under : (a b : Cell) → T (is_lt (cell_cmp a b)) → a.1 ≤ℤ b.1
less_not_under a b h = not_under a.1 b.1 (int_cmp a.1 b.1) (int_cmp a.0 b.0) (int_ranks a.1 b.1) h

all_under : (row : ℤ) (c : Cell) (cs : List Cell) → row ≤ℤ c.1 → T (below_all c cs) → AllByRecursion (λ d. row ≤ℤ d.1) cs
all_under row c [] h k = tt
all_under row c (d ∷ ds) h k = (le_le _ _ _ h (less_not_under c d (first_holds _ _ k)), all_under row c ds h (second_holds (is_lt (cell_cmp c d)) _ k))

pub rising_drop : (n : ℕ) (cs : List Cell) → T (is_rising cs) → T (is_rising (drop n cs))
rising_drop zero cs h = h
rising_drop (suc n) [] h = tt
rising_drop (suc n) (c ∷ cs) h = rising_drop n cs (second_holds (below_all c cs) _ h)

from_front : (row : ℤ) (cs : List Cell) (d : Cell) → 0 < length cs → T (is_rising cs) → row ≤ℤ (get_or cs 0 d).1 → AllByRecursion (λ c. row ≤ℤ c.1) cs
from_front row [] d l h k = tt
from_front row (c ∷ cs) d l h k = (k, all_under row c cs k (first_holds _ _ h))

-- if a cell is on the row or below it, so are all after it
pub behind_row : (row : ℤ) (cs : List Cell) (n : ℕ) (d : Cell) → n < length cs → T (is_rising cs) → row ≤ℤ (get_or cs n d).1 → All (λ c. row ≤ℤ c.1) (drop n cs)
behind_row row cs n d l h k =
    let len = length-drop n cs in
    All-from_recursion (λ c. row ≤ℤ c.1) (drop n cs)
    (from_front row (drop n cs) d (omega arith) (rising_drop n cs h) (subst (λ c. row ≤ℤ c.1) (sym (get_or-drop n cs 0 d ∙ ap (λ m. get_or cs m d) (add-zero n))) k))

-- ---- weights of the parts

parts : (k x n : ℕ) (cs : List Cell) → weights k (take n cs) x + weights k (drop n cs) x ≡ weights k cs x
parts k x n cs = sum_by-take-drop (weight k x) cs n

-- the first strip's cells are at the start
pub weights_front : (k x n : ℕ) (cs : List Cell) → All (λ c. pos (5 * k + 5) ≤ℤ c.1) (drop n cs) → weights k (take n cs) x ≡ weights k cs x
weights_front k x n cs all =
    let p = parts k x n cs in
    let none = weights_nothing k x (drop n cs) (recursion_from_All (λ c. weight k x c ≡ 0) (drop n cs) (All-weaker (λ c. pos (5 * k + 5) ≤ℤ c.1) (λ c. weight k x c ≡ 0) (weight_below k x) (drop n cs) all)) in
    omega arith

above : (s k : ℕ) (c : Cell) → s + 1 ≤ k → c.1 <ℤ pos (5 * s + 5) → c.1 <ℤ pos (5 * k)
above s k c h l = omega (arith, ints)

pub weights_behind : (s k x n : ℕ) (cs : List Cell) → s + 1 ≤ k → All (λ c. c.1 <ℤ pos (5 * s + 5)) (take n cs) → weights k (drop n cs) x ≡ weights k cs x
weights_behind s k x n cs h all =
    let p = parts k x n cs in
    let none = weights_nothing k x (take n cs) (recursion_from_All (λ c. weight k x c ≡ 0) (take n cs) (All-weaker (λ c. c.1 <ℤ pos (5 * s + 5)) (λ c. weight k x c ≡ 0) (λ c l. weight_above k x c (above s k c h l)) (take n cs) all)) in
    omega arith

-- ---- the dots of a strip in any order

pub value_of_dots : (k : ℕ) (cs : List Cell) (ds es : List (ℕ × ℕ)) → All (IsInStrip k) cs → ds ≡ map (dot k) cs → IsPermutation ds es → (x : ℕ) → dots_value es x ≡ weights k cs x
value_of_dots k cs ds es all e p x =
    sum_by-IsPermutation _ ds es p ∙ ap (λ l. dots_value l x) e ∙ sym (weights_of_dots k x cs (recursion_from_All (IsInStrip k) cs all))

dot_live : (k : ℕ) (c : Cell) → IsInStrip k c → 0 < (dot k c).1
dot_live k c h = pow_pos (nat_abs c.1 - 5 * k)

dot_placed : (k : ℕ) (c : Cell) → IsInStrip k c → (dot k c).0 < extent_limit
dot_placed k c h = omega (arith, ints)

dot_left : (k wide : ℕ) (c : Cell) → IsInStrip k c → IsLeftOf wide c → (dot k c).0 < wide
dot_left k wide c h l = omega (arith, ints)

module _ (k : ℕ) (cs : List Cell) (ds es : List (ℕ × ℕ)) (all : All (IsInStrip k) cs) (e : ds ≡ map (dot k) cs) (p : IsPermutation ds es) where
  pub dots_live : All (λ d. 0 < d.1) es
  dots_live = All-permutation (λ d. 0 < d.1) ds es p (subst (All (λ d. 0 < d.1)) (sym e) (All-map (λ d. 0 < d.1) (dot k) cs (All-weaker (IsInStrip k) (λ c. 0 < (dot k c).1) (dot_live k) cs all)))

  pub dots_placed : All (λ d. d.0 < extent_limit) es
  dots_placed = All-permutation (λ d. d.0 < extent_limit) ds es p (subst (All (λ d. d.0 < extent_limit)) (sym e) (All-map (λ d. d.0 < extent_limit) (dot k) cs (All-weaker (IsInStrip k) (λ c. (dot k c).0 < extent_limit) (dot_placed k) cs all)))

  pub dots_left : (wide : ℕ) → All (IsLeftOf wide) cs → All (λ d. d.0 < wide) es
  dots_left wide left = All-permutation (λ d. d.0 < wide) ds es p (subst (All (λ d. d.0 < wide)) (sym e) (All-map (λ d. d.0 < wide) (dot k) cs (λ i d l. dot_left k wide (get_or cs i d) (all i d l) (left i d l))))

  pub dots_text : (wide : ℕ) → values_text (dots_value es) wide ≡ values_text (weights k cs) wide
  dots_text wide = ap (λ (v : ℕ → ℕ). values_text v wide) (λ i x. value_of_dots k cs ds es all e p x i)

-- ---- what the strips leave

pub behind_strip : (s : ℕ) (cs : List Cell) → All (λ c. pos (5 * s + 5) ≤ℤ c.1) cs → All (λ c. pos (5 * (s + 1)) ≤ℤ c.1) cs
behind_strip s cs all = All-weaker (λ c. pos (5 * s + 5) ≤ℤ c.1) (λ c. pos (5 * (s + 1)) ≤ℤ c.1) (λ c h. omega (arith, ints)) cs all

pub strips_small : (s x n : ℕ) (cs part : List Cell) → part ≡ take n cs → weights s cs x < 36 → weights s part x < 36
strips_small s x n cs part e h =
    let p = parts s x n cs in
    subst (λ l. weights s l x < 36) (sym e) (omega arith)

pub text_of_part : (s wide n : ℕ) (all cs part : List Cell) → part ≡ take n cs → All (λ c. pos (5 * s + 5) ≤ℤ c.1) (drop n cs) → ((x : ℕ) → weights s all x ≡ weights s cs x) → values_text (weights s part) wide ≡ values_text (weights s all) wide
text_of_part s wide n all cs part e behind same =
    ap (λ (v : ℕ → ℕ). values_text v wide) (λ i x. (ap (λ l. weights s l x) e ∙ weights_front s x n cs behind ∙ sym (same x)) i)

-- ---- the shape's text

pub strips_fit : (high : ℕ) → high ≤ extent_limit → high / 5 + min 1 (high % 5) ≤ strip_limit
strips_fit high h = omega arith

pub strip_count : (high : ℕ) → high / 5 + min 1 (high % 5) ≡ (high + 4) / 5
strip_count high = omega arith

field_range : (z : ℤ) → pos 0 ≤ℤ z → z ≤ℤ pos 16777215 → (pos 0 ≤ℤ z) × (z <ℤ (pos 0 +ℤ pos extent_limit))
field_range z h k = (h, omega (arith, ints))

pub height_of_field : (N : Generation) (cs : List Cell) → cs ≡ cells N → All IsInField cs → height N ≤ extent_limit
height_of_field N cs e all =
    height_within N (pos 0) extent_limit (λ c h. let f = member_has IsInField N (subst (All IsInField) e all) c h in field_range c.1 f.above f.below)

pub left_of_width : (N G : Generation) (cs : List Cell) → normal N ≡ N → N ≡ G → cs ≡ cells N → All (IsLeftOf (width G)) cs
left_of_width N G cs e g f =
    subst (All (IsLeftOf (width G))) (sym f) (All-from_recursion (IsLeftOf (width G)) (cells N) (all_members (IsLeftOf (width G)) N (λ c h.
    subst (λ n. c.0 <ℤ pos n) (ap width g) (normal_in_box N c (ap (λ H. contains H c) e ∙ h)).right)))

pub body_is : (N G : Generation) (cs : List Cell) → normal N ≡ N → N ≡ G → cs ≡ cells N → strips_text (λ k. values_text (weights k cs) (width G)) ((height G + 4) / 5) ≡ body G
unfolding body
body_is N G cs e g f =
    ap (λ (v : ℕ → ℕ → ℕ). strips_text (λ k. values_text (v k) (width G)) ((height G + 4) / 5))
    (λ i k x. (ap (λ l. weights k l x) f ∙ sym (column_value_is N k x) ∙ ap (λ H. column_value H k x) (sym e ∙ ap normal g)) i)
