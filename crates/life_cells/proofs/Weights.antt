-- What the cells of a column weigh together.
use Rattle.std.proofs.Common.{◌≡◌, ◌≢◌, ℕ, zero, suc, ◌+◌, ◌-◌, ◌*◌, ◌^◌, ◌<◌, ◌≤◌, pos, negsuc, ◌≤ℤ◌, ◌<ℤ◌, Bool, true, false, ◌&&◌, ◌||◌, T, List, [], ◌∷◌, map, if◌then◌else◌, sym, refl, ap, ◌∙◌, arith, add-zero}
use Rattle.std.specs.Prelude.{◌==◌}
use Rattle.std.specs.List.{list_any, range_with_len, sum_by, AllByRecursion}
use Rattle.std.proofs.lemmas.Int.{ints}
use Rattle.std.proofs.lemmas.Bool.Decides.{nat_tests, same_from_decides, Decides-like, Decides-and, Decides-eqb}
use Rattle.std.proofs.lemmas.List.Sums.{sum_by-cons, sum_by-le-sum_by}
use Rattle.life_model.specs.Cell.{Cell, same_cell}
use Rattle.life_model.specs.Generation.{Generation, cells, below_all, is_rising}
use Rattle.life_model.proofs.Cells.{same_cell-is}
use Rattle.life_model.proofs.Generations.{contains-cells, cells-rise, none_below}
use Rattle.life_model.proofs.Tests.{first_holds, second_holds}
use Rattle.life_cells.specs.Wechsler.{column_value}
use Rattle.life_cells.specs.Dots.{weight, weights, dot, dots_value, IsInStrip}

-- ---- each cell of a list in order is in it once

apart : (a b : Bool) (w : ℕ) → (a ≡ true → b ≡ false) → (if a || b then w else 0) ≡ (if a then w else 0) + (if b then w else 0)
apart true b w h = sym (add-zero w) ∙ ap (λ t. w + (if t then w else 0)) (sym (h refl))
apart false b w h = omega arith

one_part : (f g h : ℕ → ℕ) (xs : List ℕ) → ((x : ℕ) → f x ≡ g x + h x) → sum_by f xs ≡ sum_by g xs + sum_by h xs
one_part f g h [] e = refl
one_part f g h (x ∷ xs) e =
    let a = sum_by-cons f x xs in
    let b = sum_by-cons g x xs in
    let c = sum_by-cons h x xs in
    let here = e x in
    let rest = one_part f g h xs e in
    omega arith

-- the weight of a column whose cells pass a test
abbrev pub live_value : (ℕ → Bool) → ℕ
live_value live = sum_by (λ j. if live j then 2 ^ j else 0) (range_with_len 0 5)

-- row j of a column, among some cells
abbrev pub among : List Cell → ℕ → ℕ → ℕ → Bool
among cs k x j = list_any (same_cell (pos x, pos (5 * k + j))) cs

-- one more cell, which is not yet there
pub one_cell_more : (k x : ℕ) (c : Cell) (cs : List Cell) → list_any (same_cell c) cs ≡ false →
    live_value (among cs k x) ≡ weights k cs x → live_value (among (c ∷ cs) k x) ≡ weights k (c ∷ cs) x
one_cell_more k x c cs new so_far =
    one_part (λ j. if among (c ∷ cs) k x j then 2 ^ j else 0) (λ j. if same_cell (pos x, pos (5 * k + j)) c then 2 ^ j else 0) (λ j. if among cs k x j then 2 ^ j else 0) (range_with_len 0 5)
    (λ j. apart (same_cell (pos x, pos (5 * k + j)) c) (among cs k x j) (2 ^ j) (λ e.
    ap (λ b. list_any (same_cell b) cs) ((same_cell-is (pos x, pos (5 * k + j)) c).0 e) ∙ new))
    ∙ ap (λ n. weight k x c + n) so_far
    ∙ sym (sum_by-cons (weight k x) c cs)

pub weights_is : (k x : ℕ) (cs : List Cell) → T (is_rising cs) → live_value (among cs k x) ≡ weights k cs x
weights_is k x [] h = refl
weights_is k x (c ∷ cs) h =
    one_cell_more k x c cs (none_below c cs (first_holds _ _ h)) (weights_is k x cs (second_holds (below_all c cs) _ h))

pub live_value-lt : (live : ℕ → Bool) → live_value live < 32
live_value-lt live =
    let h = sum_by-le-sum_by (λ j. if live j then 2 ^ j else 0) (λ j. 2 ^ j) (range_with_len 0 5) (λ j. one (live j) (2 ^ j)) in
    omega arith
  where
    one : (b : Bool) (w : ℕ) → (if b then w else 0) ≤ w
    one true w = omega arith
    one false w = omega arith

pub weights-lt : (k : ℕ) (cs : List Cell) → T (is_rising cs) → (x : ℕ) → weights k cs x < 36
weights-lt k cs h x =
    let e = weights_is k x cs h in
    let s = live_value-lt (among cs k x) in
    omega arith

pub column_value_is : (G : Generation) (k x : ℕ) → column_value G k x ≡ weights k (cells G) x
column_value_is G k x =
    ap (λ (live : ℕ → Bool). live_value live) (λ i j. contains-cells G (pos x, pos (5 * k + j)) i) ∙ weights_is k x (cells G) (cells-rise G)

-- ---- one cell

same_places : (a b c d : ℕ) → same_cell (pos a, pos b) (pos c, pos d) ≡ ((c == a) && (b == d))
same_places a b c d =
    same_from_decides _ _ (same_cell-is (pos a, pos b) (pos c, pos d))
    (Decides-like {P = (c ≡ a) × (b ≡ d)} {Q = ◌≡◌ {A = Cell} (pos a, pos b) (pos c, pos d)} _
    (λ e. λ i. (pos (sym e.0 i), pos (e.1 i))) (λ e. (omega (arith, ints, ap (λ q. q.0) e), omega (arith, ints, ap (λ q. q.1) e)))
    (Decides-and _ _ (Decides-eqb c a) (Decides-eqb b d)))

same_rows : (k j i : ℕ) → (5 * k + j == 5 * k + i) ≡ (j == i)
same_rows k j i = grind (arith, nat_tests)

row_weight : (i : ℕ) → i < 5 → live_value (λ j. j == i) ≡ 2 ^ i
row_weight zero h = refl
row_weight (suc zero) h = refl
row_weight (suc (suc zero)) h = refl
row_weight (suc (suc (suc zero))) h = refl
row_weight (suc (suc (suc (suc zero)))) h = refl
row_weight (suc (suc (suc (suc (suc i))))) h = absurd (omega arith)

when : (b : Bool) (test : ℕ → Bool) → live_value (λ j. b && test j) ≡ (if b then live_value test else 0)
when true test = refl
when false test = refl

-- in its own strip
pub weight_at : (k x p i : ℕ) → i < 5 → weight k x (pos p, pos (5 * k + i)) ≡ (if p == x then 2 ^ i else 0)
weight_at k x p i h =
    ap (λ (live : ℕ → Bool). live_value live) (λ t j. (same_places x (5 * k + j) p (5 * k + i) ∙ ap (λ b. (p == x) && b) (same_rows k j i)) t)
    ∙ when (p == x) (λ j. j == i) ∙ ap (λ n. if p == x then n else 0) (row_weight i h)

pub weight_is : (k x : ℕ) (c : Cell) → IsInStrip k c → weight k x c ≡ (if (dot k c).0 == x then (dot k c).1 else 0)
weight_is k x (pos p, pos y) h =
    let at : y ≡ 5 * k + (y - 5 * k) = omega (arith, ints) in
    ap (λ n. weight k x (pos p, pos n)) at ∙ weight_at k x p (y - 5 * k) (omega (arith, ints))
weight_is k x (pos p, negsuc y) h = absurd (omega (arith, ints))
weight_is k x (negsuc p, y) h = absurd (omega (arith, ints))

pub weights_of_dots : (k x : ℕ) (cs : List Cell) → AllByRecursion (IsInStrip k) cs → weights k cs x ≡ dots_value (map (dot k) cs) x
weights_of_dots k x [] all = refl
weights_of_dots k x (c ∷ cs) all =
    sum_by-cons (weight k x) c cs ∙ (λ i. weight_is k x c all.0 i + weights_of_dots k x cs all.1 i)
    ∙ sym (sum_by-cons (λ d. if d.0 == x then d.1 else 0) (dot k c) (map (dot k) cs))

-- ---- cells of other strips

abbrev none_of : ℕ → ℕ → Cell → ℕ → Type 0
none_of k x c j = same_cell (pos x, pos (5 * k + j)) c ≡ false

all_none : (k x : ℕ) (c : Cell) → ((j : ℕ) → j < 5 → same_cell (pos x, pos (5 * k + j)) c ≡ false) → weight k x c ≡ 0
all_none k x c h =
    let a = h 0 (omega arith) in
    let b = h 1 (omega arith) in
    let d = h 2 (omega arith) in
    let e = h 3 (omega arith) in
    let f = h 4 (omega arith) in
    λ i. 0 + (if a i then 1 else 0) + (if b i then 2 else 0) + (if d i then 4 else 0) + (if e i then 8 else 0) + (if f i then 16 else 0)

other_cell : (a b : Cell) → a.1 ≢ b.1 → same_cell a b ≡ false
other_cell a b h =
    elim (same_cell a b) as (λ t. same_cell a b ≡ t → t ≡ false) [
      | true ↦ λ e. absurd (h (ap (λ c. c.1) ((same_cell-is a b).0 e)))
      | false ↦ λ e. refl
    ] refl

pub weight_above : (k x : ℕ) (c : Cell) → c.1 <ℤ pos (5 * k) → weight k x c ≡ 0
weight_above k x c h = all_none k x c (λ j l. other_cell (pos x, pos (5 * k + j)) c (λ e. omega (arith, ints)))

pub weight_below : (k x : ℕ) (c : Cell) → pos (5 * k + 5) ≤ℤ c.1 → weight k x c ≡ 0
weight_below k x c h = all_none k x c (λ j l. other_cell (pos x, pos (5 * k + j)) c (λ e. omega (arith, ints)))

pub weights_nothing : (k x : ℕ) (cs : List Cell) → AllByRecursion (λ c. weight k x c ≡ 0) cs → weights k cs x ≡ 0
weights_nothing k x [] all = refl
weights_nothing k x (c ∷ cs) all = sum_by-cons (weight k x) c cs ∙ (λ i. all.0 i + weights_nothing k x cs all.1 i)
