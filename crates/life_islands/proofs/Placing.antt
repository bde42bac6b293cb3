-- Which of the sets has a cell, by its place.
use Rattle.std.proofs.Common.{◌≡◌, ℕ, ◌+◌, ◌<◌, true, false, List, length, get_or, set, get_or-set_same, get_or-set_other, inl, inr, sym, refl, ap, subst, ◌∙◌, arith, true≢false}
use Rattle.std.specs.List.{AllPairs, list_any}
use Rattle.std.proofs.lemmas.Int.{ints}
use Rattle.std.proofs.lemmas.Bool.{both_ways, cases_Bool, cases_lt}
use Rattle.std.proofs.lemmas.List.{get_or_default}
use Rattle.std.proofs.lemmas.List.Elements.{at_from_Contains}
use Rattle.std.proofs.lemmas.List.Folds.{Any-from_list_any, list_any_at}
use Rattle.life_model.specs.Cell.{Cell, IsNear, around, origin}
use Rattle.life_model.specs.Rule.{Rule}
use Rattle.life_model.specs.Generation.{Generation, cells, contains, empty}
use Rattle.life_cells.specs.Limits.{IsPlace}
use Rattle.life_objects.specs.Apart.{AreDisjoint}
use Rattle.life_objects.specs.Union.{union_of}
use Rattle.life_objects.proofs.Unions.{contains-union_of}
use Rattle.life_parts.specs.Parts.Apart.{AreHeldApart, AreOfOneSet, HaveBoth}
use Rattle.life_parts.proofs.PartsLemmas.Around.{near_swapped, one_around}
use Rattle.life_parts.specs.Parts.Groups.{IsAround}
use Rattle.life_islands.specs.declared.colours.Seat.{Seat}
use Rattle.life_islands.specs.Seats.{IsSeat, cell_at, listed, seat}
use Rattle.life_islands.specs.Reach.{IsInReach, IsWithinTwo}
use Rattle.life_islands.specs.Splits.{AreOfWholeIslands, IsSettled, IsSettledNear}
use Rattle.life_islands.proofs.Neighbours.{seated}
use Rattle.life_islands.specs.declared.labels.Labels.{Labels}
use Rattle.life_classes.specs.Forest.{root}
use Rattle.life_islands.specs.Labels.{Fits, mark_of, sets_of}
use Rattle.life_islands.proofs.Labelled.{in_set, length-sets, listed_cell, mark-at, place_in_list, root_within_forest, whole_by_mark}

pub placed : (Hs : List Generation) (G : Generation) (c : Cell) → union_of Hs ≡ G → contains G c ≡ true →
    (i : ℕ) × (i < length Hs) × (contains (get_or Hs i empty) c ≡ true)
placed Hs G c together h =
    let one = Any-from_list_any (λ H. contains H c) Hs (sym (contains-union_of Hs c) ∙ ap (λ H. contains H c) together ∙ h) in
    (one.0, one.2, ap (λ H. contains H c) (sym (get_or_default Hs one.0 one.1 empty one.2) ∙ one.3) ∙ one.4)

-- sets that share a cell are in one place of the list
pub one_place : (Hs : List Generation) → AllPairs AreDisjoint Hs → (c : Cell) (i j : ℕ) → i < length Hs → j < length Hs →
    contains (get_or Hs i empty) c ≡ true → contains (get_or Hs j empty) c ≡ true → i ≡ j
one_place Hs once c i j h k a b =
    elim (cases_lt i j) [
      | inl less ↦ absurd (once i j empty less k c a b)
      | inr no_less ↦ elim (cases_lt j i) [
        | inl more ↦ absurd (once j i empty more h c b a)
        | inr no_more ↦ omega arith
      ]
    ]

-- cells of the set in one place are of one set
pub both_in_place : (Hs : List Generation) → AllPairs AreDisjoint Hs → (c e : Cell) (i : ℕ) → i < length Hs →
    contains (get_or Hs i empty) c ≡ true → contains (get_or Hs i empty) e ≡ true → HaveBoth Hs c e
both_in_place Hs once c e i h a b H listed in_H =
    let at = at_from_Contains Hs H listed in
    let of_H : contains (get_or Hs at.0 empty) c ≡ true = ap (λ B. contains B c) (at.2 empty) ∙ in_H in
    let same : i ≡ at.0 = one_place Hs once c i at.0 h at.1 a of_H in
    ap (λ B. contains B e) (sym (at.2 empty)) ∙ ap (λ n. contains (get_or Hs n empty) e) (sym same) ∙ b

-- ---- seats

module _ (G : Generation) (L : Labels) (fits : Fits G L) (at : ℕ) (c : Cell) (inside : at < length (cells G))
    (is : get_or (cells G) at origin ≡ c) where
  abbrev found : ℕ
  found = root L.forest.items (get_or L.labels.items at 0)

  marks : mark_of G L.labels.items L.forest.items c ≡ found
  marks = ap (mark_of G L.labels.items L.forest.items) (sym is) ∙ mark-at G L.labels.items L.forest.items fits.long at origin inside

  pub set_inside_list : found < length (sets_of G L)
  set_inside_list =
      let long = length-sets G L.labels.items L.forest.items in
      let within = root_within_forest G L fits at inside in
      omega arith

  pub has_cell : contains (get_or (sets_of G L) found empty) c ≡ true
  has_cell =
      in_set G L.labels.items L.forest.items found empty c (root_within_forest G L fits at inside)
      (ap (contains G) (sym is) ∙ listed_cell G (cells G) at refl inside) marks

pub seat_is : (G : Generation) (I L : Labels) (x : Cell) (n at : ℕ) (c : Cell) → Fits G I → Fits G L → c ≡ cell_at x n →
    at < length (cells G) → get_or (cells G) at origin ≡ c →
    IsSeat G (sets_of G I) (sets_of G L) x n
    (record { live = true; island = root I.forest.items (get_or I.labels.items at 0); set = root L.forest.items (get_or L.labels.items at 0) })
seat_is G I L x n at c i_fits l_fits is inside same = record {
  live = sym (ap (contains G) (sym (same ∙ is)) ∙ listed_cell G (cells G) at refl inside);
  island_within = λ _. set_inside_list G I i_fits at c inside same;
  island = λ _. ap (contains (get_or (sets_of G I) (root I.forest.items (get_or I.labels.items at 0)) empty)) (sym is) ∙ has_cell G I i_fits at c inside same;
  set_within = λ _. set_inside_list G L l_fits at c inside same;
  set = λ _. ap (contains (get_or (sets_of G L) (root L.forest.items (get_or L.labels.items at 0)) empty)) (sym is) ∙ has_cell G L l_fits at c inside same;
}

pub no_seat : (G : Generation) (isles sets : List Generation) (x : Cell) (n : ℕ) (c : Cell) → c ≡ cell_at x n → contains G c ≡ false →
    IsSeat G isles sets x n (record { live = false; island = 0; set = 0 })
no_seat G isles sets x n c is none = record {
  live = sym (ap (contains G) (sym is) ∙ none);
  island_within = λ h. absurd (true≢false (sym h));
  island = λ h. absurd (true≢false (sym h));
  set_within = λ h. absurd (true≢false (sym h));
  set = λ h. absurd (true≢false (sym h));
}

pub one_seat_more : (G : Generation) (isles sets : List Generation) (x : Cell) (seats : List Seat) (n : ℕ) (s : Seat) →
    length seats ≡ 8 → n < 8 → ((k : ℕ) → k < n → IsSeat G isles sets x k (seat seats k)) → IsSeat G isles sets x n s →
    (k : ℕ) → k < n + 1 → IsSeat G isles sets x k (seat (set seats n s) k)
one_seat_more G isles sets x seats n s long h before here k l =
    elim (cases_lt k n) [
      | inl less ↦
          subst (IsSeat G isles sets x k) (sym (get_or-set_other seats n k s _ (λ e. absurd (omega arith)))) (before k less)
      | inr no_less ↦
          let same : n ≡ k = omega arith in
          subst (λ m. IsSeat G isles sets x m (seat (set seats n s) m)) same
          (subst (IsSeat G isles sets x n) (sym (get_or-set_same seats n s _ (omega arith))) here)
    ]

pub one_listed_more : (xs : List ℕ) (f : ℕ → ℕ) (n v : ℕ) → length xs ≡ 8 → n < 8 → v ≡ f n →
    ((k : ℕ) → k < n → listed xs k ≡ f k) → (k : ℕ) → k < n + 1 → listed (set xs n v) k ≡ f k
one_listed_more xs f n v long h is before k l =
    elim (cases_lt k n) [
      | inl less ↦ get_or-set_other xs n k v 0 (λ e. absurd (omega arith)) ∙ before k less
      | inr no_less ↦
          let same : n ≡ k = omega arith in
          subst (λ m. listed (set xs n v) m ≡ f m) same (get_or-set_same xs n v 0 (omega arith) ∙ is)
    ]

-- ---- what is within two of a cell

-- all that is within two of a cell has the mark of one place
module _ (G : Generation) (L : Labels) (fits : Fits G L) (cell : Cell) (own : ℕ)
    (near_own : (k : ℕ) → k < length (cells G) → IsWithinTwo (get_or (cells G) k origin) cell →
    root L.forest.items (get_or L.labels.items k 0) ≡ own) where
  mark_near : (x c : Cell) → IsNear x cell → IsAround G x c → mark_of G L.labels.items L.forest.items c ≡ own
  mark_near x c near at =
      let b = at.near in
      let k = place_in_list G (cells G) refl c at.live in
      ap (mark_of G L.labels.items L.forest.items) (sym k.2) ∙ mark-at G L.labels.items L.forest.items fits.long k.0 origin k.1
      ∙ near_own k.0 k.1 (subst (λ e. IsWithinTwo e cell) (sym k.2) (record {
        left = omega (arith, ints);
        right = omega (arith, ints);
        above = omega (arith, ints);
        below = omega (arith, ints);
      }))

  pub of_one_near : (x : Cell) → IsNear x cell → AreOfOneSet G (sets_of G L) x
  of_one_near x near c d at too =
      whole_by_mark G L fits c d too.live (mark_near x c near at ∙ sym (mark_near x d near too))

-- ---- a generation as a whole

pub reach_of_place : (c : Cell) → IsPlace c → IsInReach c
reach_of_place c at =
    let left = at.left in
    let right = at.right in
    let above = at.above in
    let below = at.below in
    record { left = omega (arith, ints); right = omega (arith, ints); above = omega (arith, ints); below = omega (arith, ints) }

-- each place is settled where those near each cell are
pub held_by_cells : (R : Rule) (G : Generation) (sets : List Generation) (all : List Cell) → all ≡ cells G →
    AreOfWholeIslands G sets → ((k : ℕ) (d : Cell) → k < length all → IsSettledNear R G sets (get_or all k d)) →
    AreHeldApart R G sets
held_by_cells R G sets all is whole settled = record {
  islands = whole;
  places = λ x place.
      elim (cases_Bool (list_any (contains G) (around x))) [
        | inl some ↦
            let c = one_around (contains G) x some in
            let k = place_in_list G all is c.0 c.1 in
            let near : IsNear x (get_or all k.0 origin) = subst (IsNear x) (sym k.2) (near_swapped c.0 x c.2) in
            settled k.0 origin k.1 x near place
        | inr none ↦ inl (λ c d at too.
            let n = seated x c at.near (λ e. both_ways (contains G x) place (ap (contains G) (sym e) ∙ at.live)) in
            absurd (both_ways (list_any (contains G) (around x)) none
            (list_any_at (contains G) (around x) n.0 origin n.1 (ap (contains G) n.2 ∙ at.live))))
      ];
}

-- the places near a cell are its eight neighbours
pub settled_near : (R : Rule) (G : Generation) (sets : List Generation) (cell : Cell) → contains G cell ≡ true →
    ((k : ℕ) → k < 8 → contains G (cell_at cell k) ≡ false → IsSettled R G sets (cell_at cell k)) → IsSettledNear R G sets cell
settled_near R G sets cell here each x near place =
    let n = seated cell x near (λ e. both_ways (contains G x) place (ap (contains G) e ∙ here)) in
    subst (IsSettled R G sets) n.2 (each n.0 n.1 (ap (contains G) n.2 ∙ place))

-- where all cells have one mark there is one set
pub held_as_one : (R : Rule) (G : Generation) (L : Labels) → Fits G L → AreOfWholeIslands G (sets_of G L) → (own : ℕ) →
    ((k : ℕ) → k < length L.labels.items → root L.forest.items (get_or L.labels.items k 0) ≡ own) → AreHeldApart R G (sets_of G L)
held_as_one R G L fits whole own all =
    let mark = mark_of G L.labels.items L.forest.items in
    let one = λ (c : Cell) (h : contains G c ≡ true).
    let k = place_in_list G (cells G) refl c h in
    let long = fits.long in
    let inside : k.0 < length (cells G) = k.1 in
    ap mark (sym k.2) ∙ mark-at G L.labels.items L.forest.items fits.long k.0 origin inside ∙ all k.0 (omega arith) in
    record {
      islands = whole;
      places = λ x place. inl (λ c d at too. whole_by_mark G L fits c d too.live (one c at.live ∙ sym (one d too.live)));
    }
