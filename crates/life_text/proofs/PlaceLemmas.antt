-- Cells in order, counted from their corner.
use Rattle.std.proofs.Common.{◌≡◌, ℕ, ◌+◌, ◌<◌, ◌≤◌, max, ℤ, ◌+ℤ◌, neg_ℤ, ◌≤ℤ◌, ◌<ℤ◌, int_cmp, T, Ordering, Less, Equal, Greater, ◌⊎◌, inl, inr, List, [], ◌∷◌, length, get_or, take, drop, map, nat_abs, All, add-one, sym, refl, ap, subst, ◌∙◌, arith}
use Rattle.std.specs.Ordering.{ordering_then, is_lt, MatchOrdering}
use Rattle.std.specs.Cmp.{int_ranks}
use Rattle.std.specs.Int.{int_min}
use Rattle.std.proofs.Math.Seq.{drop-cons}
use Rattle.std.proofs.lemmas.Int.{ints, clamps}
use Rattle.std.proofs.lemmas.List.{take_more}
use Rattle.std.proofs.lemmas.List.Elements.{All-head, All-tail}
use Rattle.std.proofs.lemmas.List.Recursion.{max_push}
use Rattle.std.proofs.lemmas.Simd.{map-map}
use Rattle.life_model.specs.Box.{extent, width, height}
use Rattle.life_model.specs.Cell.{Cell, cell_cmp, plus, opposite}
use Rattle.life_model.specs.Generation.{Generation, cells, from_list, below_all, is_rising}
use Rattle.life_model.specs.Symmetry.{corner, corner_of, least_by, normal}
use Rattle.life_model.proofs.Generations.{cells-from_list}
use Rattle.life_model.proofs.Lists.{cells-moved}
use Rattle.life_model.proofs.Moves.{same_le}
use Rattle.life_model.proofs.Tests.{first_holds, second_holds}
use Rattle.life_text.specs.Places.{place, places}
use Rattle.life_text.specs.Writer.{places_from}
use Rattle.life_text.proofs.CornerLemmas.{corner_left, corner_above}

-- cells in order, from a row and column on
abbrev pub IsBehind : ℕ → ℕ → List (ℕ × ℕ) → Type 0
IsBehind y x [] = Unit {0}
IsBehind y x (c ∷ cells) = (y ≤ c.1) × (c.1 ≡ y → x ≤ c.0) × IsBehind c.1 (c.0 + 1) cells

-- # Two cells in order

abbrev IsBefore : Cell → Cell → Type 0
IsBefore c d = (c.1 <ℤ d.1) ⊎ ((c.1 ≡ d.1) × (c.0 <ℤ d.0))

ranked : (c d : Cell) (r s : Ordering) → MatchOrdering r (c.1 <ℤ d.1) (c.1 ≡ d.1) (d.1 <ℤ c.1) → MatchOrdering s (c.0 <ℤ d.0) (c.0 ≡ d.0) (d.0 <ℤ c.0) → T (is_lt (ordering_then r s)) → IsBefore c d
ranked c d Less s h k less = inl h
ranked c d Equal Less h k less = inr (h, k)
ranked c d Equal Equal h k less = absurd less
ranked c d Equal Greater h k less = absurd less
ranked c d Greater s h k less = absurd less

before : (c d : Cell) → T (is_lt (cell_cmp c d)) → IsBefore c d
before c d less = ranked c d (int_cmp c.1 d.1) (int_cmp c.0 d.0) (int_ranks c.1 d.1) (int_ranks c.0 d.0) less

-- the numbers of two cells in order, counted from a corner
row_order : (a b k : ℤ) → k ≤ℤ a → a ≤ℤ b → nat_abs (a +ℤ neg_ℤ k) ≤ nat_abs (b +ℤ neg_ℤ k)
row_order a b k h l = omega (arith, ints)

column_order : (a b k : ℤ) → k ≤ℤ a → a <ℤ b → nat_abs (a +ℤ neg_ℤ k) + 1 ≤ nat_abs (b +ℤ neg_ℤ k)
column_order a b k h l = omega (arith, ints)

row_apart : (a b k : ℤ) → k ≤ℤ a → a <ℤ b → nat_abs (b +ℤ neg_ℤ k) ≡ nat_abs (a +ℤ neg_ℤ k) → ⊥
row_apart a b k h l e = omega (arith, ints)

-- # All cells

first_of : (c d : Cell) (ds : List Cell) → T (below_all c (d ∷ ds)) → T (is_lt (cell_cmp c d))
first_of c d ds h = first_holds (is_lt (cell_cmp c d)) (below_all c ds) h

rest_of : (c : Cell) (cs : List Cell) → T (is_rising (c ∷ cs)) → T (below_all c cs) × T (is_rising cs)
rest_of c cs h = (first_holds (below_all c cs) (is_rising cs) h, second_holds (below_all c cs) (is_rising cs) h)

-- no cell is left of the corner or above it
abbrev IsAhead : Cell → Cell → Type 0
IsAhead k c = (k.0 ≤ℤ c.0) × (k.1 ≤ℤ c.1)

abbrev place_from : Cell → Cell → ℕ × ℕ
place_from k c = place (plus c (opposite k))

cells_behind : (k c : Cell) (cs : List Cell) → T (is_rising (c ∷ cs)) → All (IsAhead k) (c ∷ cs) → IsBehind (place_from k c).1 ((place_from k c).0 + 1) (places_from k cs)
cells_behind k c [] rising all = tt
cells_behind k c (d ∷ ds) rising all =
    let ahead = All-head (IsAhead k) c (d ∷ ds) all in
    let parts = rest_of c (d ∷ ds) rising in
    let others = All-tail (IsAhead k) c (d ∷ ds) all in
    let order = before c d (first_of c d ds parts.0) in
    (row ahead order, column ahead order, cells_behind k d ds parts.1 others)
  where
    row : IsAhead k c → IsBefore c d → (place_from k c).1 ≤ (place_from k d).1
    row ahead (inl h) = row_order c.1 d.1 k.1 ahead.1 (omega (arith, ints))
    row ahead (inr h) = row_order c.1 d.1 k.1 ahead.1 (same_le c.1 d.1 h.0)

    column : IsAhead k c → IsBefore c d → (place_from k d).1 ≡ (place_from k c).1 → (place_from k c).0 + 1 ≤ (place_from k d).0
    column ahead (inl h) e = absurd (row_apart c.1 d.1 k.1 ahead.1 h e)
    column ahead (inr h) e = column_order c.0 d.0 k.0 ahead.0 h.1

all_ahead : (cs : List Cell) → All (IsAhead (corner_of cs)) cs
all_ahead cs i d h = (corner_left cs i d h, corner_above cs i d h)

-- the places of cells in order, counted from their corner, are in order
pub places_behind : (k : Cell) (cs : List Cell) → k ≡ corner_of cs → T (is_rising cs) → IsBehind 0 0 (places_from k cs)
places_behind k [] e rising = tt
places_behind k (c ∷ cs) e rising =
    let all : All (IsAhead k) (c ∷ cs) = subst (λ l. All (IsAhead l) (c ∷ cs)) (sym e) (all_ahead (c ∷ cs)) in
    (omega arith, λ _. omega arith, cells_behind k c cs rising all)

-- # The first row

min_first : (a b : ℤ) → a ≤ℤ b → int_min a b ≡ a
min_first a b h = omega (arith, ints, clamps)

top : (c : Cell) (cs : List Cell) → T (is_rising (c ∷ cs)) → least_by (λ b. b.1) c cs ≡ c.1
top c [] rising = refl
top c (d ∷ ds) rising =
    let parts = rest_of c (d ∷ ds) rising in
    ap (int_min c.1) (top d ds parts.1) ∙ min_first c.1 d.1 (row (before c d (first_of c d ds parts.0)))
  where
    row : IsBefore c d → c.1 ≤ℤ d.1
    row (inl h) = omega (arith, ints)
    row (inr h) = same_le c.1 d.1 h.0

no_distance : (a k : ℤ) → k ≡ a → nat_abs (a +ℤ neg_ℤ k) ≡ 0
no_distance a k e = omega (arith, ints)

-- the cells begin in the first row
abbrev pub BeginsAbove : List (ℕ × ℕ) → Type 0
BeginsAbove [] = Unit {0}
BeginsAbove (c ∷ cells) = c.1 ≡ 0

pub places_begin : (k : Cell) (cs : List Cell) → k ≡ corner_of cs → T (is_rising cs) → BeginsAbove (places_from k cs)
places_begin k [] e rising = tt
places_begin k (c ∷ cs) e rising = no_distance c.1 k.1 (ap (λ b. b.1) e ∙ top c cs rising)

-- # The cells from a place on

pub places_at : (k : Cell) (cs : List Cell) (i : ℕ) (d : Cell) → i < length cs → places_from k (drop i cs) ≡ place (plus (get_or cs i d) (opposite k)) ∷ places_from k (drop (i + 1) cs)
places_at k cs i d lt = ap (places_from k) (from_place cs i d lt)
  where
    from_place : (cs : List Cell) (i : ℕ) (d : Cell) → i < length cs → drop i cs ≡ get_or cs i d ∷ drop (i + 1) cs
    from_place cs i d lt = rw add-one (drop-cons cs i d lt)

-- # The bounding box

module _ (f : ℕ × ℕ → ℕ) (k : Cell) where
  pub extent_more : (cs : List Cell) (i : ℕ) (d : Cell) → i < length cs → extent (map f (places_from k (take (i + 1) cs))) ≡ max (extent (map f (places_from k (take i cs)))) (f (place (plus (get_or cs i d) (opposite k))) + 1)
  extent_more cs i d h =
      ap (λ bs. extent (map f (places_from k bs))) (take_more cs i d h)
      ∙ max_push (λ bs. extent (map f (places_from k bs))) (λ b. f (place_from k b) + 1) refl (λ b bs. refl) (take i cs) (get_or cs i d)

-- # The normal form

-- what the writer counts from the corner are the places of the normal form
pub places_are : (G : Generation) (cs : List Cell) (k : Cell) → cs ≡ cells G → k ≡ corner_of cs → places_from k cs ≡ places G
unfolding normal corner
places_are G cs k e f =
    let corner_is : k ≡ corner G = f ∙ ap corner_of e in
    ap (places_from k) e ∙ ap (λ l. places_from l (cells G)) corner_is ∙ sym (map-map place (λ c. plus c (opposite (corner G))) (cells G))
    ∙ ap (map place) (sym (cells-moved G (opposite (corner G))))

-- its bounding box, given these places
pub width_by_places : (G : Generation) → width G ≡ extent (map (λ p. p.0) (places G))
unfolding width
width_by_places G = ap extent (sym (map-map (λ (p : ℕ × ℕ). p.0) place (cells (normal G))))

pub height_by_places : (G : Generation) → height G ≡ extent (map (λ p. p.1) (places G))
unfolding height
height_by_places G = ap extent (sym (map-map (λ (p : ℕ × ℕ). p.1) place (cells (normal G))))

-- the places of cells in order, and the bounding box that they give
pub places_of_list : (cs : List Cell) (k : Cell) → T (is_rising cs) → k ≡ corner_of cs → places_from k cs ≡ places (from_list cs)
places_of_list cs k rising e = places_are (from_list cs) cs k (sym (cells-from_list cs rising)) e

pub width_of_list : (cs : List Cell) (k : Cell) → T (is_rising cs) → k ≡ corner_of cs → extent (map (λ p. p.0) (places_from k cs)) ≡ width (from_list cs)
width_of_list cs k rising e = ap (λ (ps : List (ℕ × ℕ)). extent (map (λ p. p.0) ps)) (places_of_list cs k rising e) ∙ sym (width_by_places (from_list cs))

pub height_of_list : (cs : List Cell) (k : Cell) → T (is_rising cs) → k ≡ corner_of cs → extent (map (λ p. p.1) (places_from k cs)) ≡ height (from_list cs)
height_of_list cs k rising e = ap (λ (ps : List (ℕ × ℕ)). extent (map (λ p. p.1) ps)) (places_of_list cs k rising e) ∙ sym (height_by_places (from_list cs))
