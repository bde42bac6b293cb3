-- Which cells touching joins.
use Rattle.std.proofs.Common.{◌≡◌, ◌⊎◌, ℕ, zero, suc, ◌+◌, ◌<◌, Bool, true, false, ◌||◌, length, get_or, ◌-ℤ◌, inl, inr, sym, refl, ap, subst, ◌∙◌, arith}
use Rattle.std.specs.List.{All, range_with_len}
use Rattle.std.proofs.lemmas.Bool.{both_ways, cases_Bool}
use Rattle.std.proofs.lemmas.Int.{ints}
use Rattle.std.proofs.lemmas.List.FromFn.{get_or-range_with_len, length-range_with_len}
use Rattle.std.proofs.Math.Bool.{or-false, or-true}
use Rattle.life_model.specs.Cell.{Cell, IsNear, origin, same_cell}
use Rattle.life_model.specs.Rule.{Rule}
use Rattle.life_model.specs.Generation.{Generation, cells, contains}
use Rattle.life_model.proofs.Cells.{pair, same_cell-is}
use Rattle.life_cells.specs.Limits.{IsPlace}
use Rattle.life_parts.specs.Parts.Ties.{AreTied, swapped, through, touching}
use Rattle.life_objects.proofs.Ring.{three}
use Rattle.life_islands.specs.declared.labels.Labels.{Labels}
use Rattle.life_classes.specs.Forest.{IsJoined, root}
use Rattle.life_islands.specs.Labels.{AreJoinedByTouch, AreJoinedFurther, AreJoinedWithin, AreNumbered, AreOne, Fits, HasMet, KeepsTied, mark_of, sets_of}
use Rattle.life_islands.specs.Reach.{IsInReach}
use Rattle.life_islands.specs.Seats.{cell_at}
use Rattle.life_islands.specs.Splits.{AreIslands, AreJoined, AreOfWholeIslands, alone, beside, chained, turned}
use Rattle.life_classes.proofs.Forests.{root-stays}
use Rattle.life_islands.proofs.Further.{further_by_join, further_itself, further_through, joined_so, kept_itself, kept_through}
use Rattle.life_islands.proofs.Labelled.{length-sets, listed_cell, make_up, mark_by_whole, mark-at, of_set, place_in_list, whole_by_mark}

pub in_reach : (c : Cell) → IsPlace c → IsInReach c
in_reach c p =
    let left = p.left in
    let right = p.right in
    let above = p.above in
    let below = p.below in
    record { left = omega (arith, ints); right = omega (arith, ints); above = omega (arith, ints); below = omega (arith, ints) }

-- ---- the first four of the cells around a cell

pub near_first : (x : Cell) (n : ℕ) → n < 4 → IsNear (cell_at x n) x
near_first x zero h = record { left = omega (arith, ints); right = omega (arith, ints); above = omega (arith, ints); below = omega (arith, ints) }
near_first x (suc zero) h = record { left = omega (arith, ints); right = omega (arith, ints); above = omega (arith, ints); below = omega (arith, ints) }
near_first x (suc (suc zero)) h = record { left = omega (arith, ints); right = omega (arith, ints); above = omega (arith, ints); below = omega (arith, ints) }
near_first x (suc (suc (suc zero))) h = record { left = omega (arith, ints); right = omega (arith, ints); above = omega (arith, ints); below = omega (arith, ints) }
near_first x (suc (suc (suc (suc n)))) h = absurd (omega arith)

-- of two cells near each other the one is among the other's first four
pub first_four : (x c : Cell) → IsNear c x → (c ≡ x → ⊥) →
    ((n : ℕ) × (n < 4) × (cell_at x n ≡ c)) ⊎ ((n : ℕ) × (n < 4) × (cell_at c n ≡ x))
first_four x c near other =
    let left = near.left in
    let right = near.right in
    let above = near.above in
    let below = near.below in
    let dx = three (c.0 -ℤ x.0) (omega (arith, ints)) (omega (arith, ints)) in
    let dy = three (c.1 -ℤ x.1) (omega (arith, ints)) (omega (arith, ints)) in
    elim dx [
      | inl a ↦ elim dy [
        | inl b ↦ inl (0, omega arith, pair (omega (arith, ints)) (omega (arith, ints)))
        | inr q ↦ elim q [
          | inl b ↦ inl (3, omega arith, pair (omega (arith, ints)) (omega (arith, ints)))
          | inr b ↦ inr (2, omega arith, pair (omega (arith, ints)) (omega (arith, ints)))
        ]
      ]
      | inr p ↦ elim p [
        | inl a ↦ elim dy [
          | inl b ↦ inl (1, omega arith, pair (omega (arith, ints)) (omega (arith, ints)))
          | inr q ↦ elim q [
            | inl b ↦ absurd (other (pair (omega (arith, ints)) (omega (arith, ints))))
            | inr b ↦ inr (1, omega arith, pair (omega (arith, ints)) (omega (arith, ints)))
          ]
        ]
        | inr a ↦ elim dy [
          | inl b ↦ inl (2, omega arith, pair (omega (arith, ints)) (omega (arith, ints)))
          | inr q ↦ elim q [
            | inl b ↦ inr (3, omega arith, pair (omega (arith, ints)) (omega (arith, ints)))
            | inr b ↦ inr (0, omega arith, pair (omega (arith, ints)) (omega (arith, ints)))
          ]
        ]
      ]
    ]

-- ---- joins of what touches, one after another

pub by_touch_itself : (G : Generation) (L : Labels) → AreJoinedByTouch G L L false
by_touch_itself G L = record { further = further_itself L; tied = λ R. kept_itself R G L; joined = λ h. h }

pub by_touch_through : (G : Generation) (L M N : Labels) (a b : Bool) → AreJoinedByTouch G L M a → AreJoinedByTouch G M N b →
    AreJoinedByTouch G L N (a || b)
by_touch_through G L M N a b f g = record {
  further = further_through L M N a b f.further g.further;
  tied = λ R. kept_through R G L M N f.further.labels (f.tied R) (g.tied R);
  joined = λ h. g.joined (f.joined h);
}

-- where one more join is new, and where it is not
pub by_touch_new : (G : Generation) (L M N : Labels) (a b d : Bool) → AreJoinedByTouch G L M a → AreJoinedByTouch G M N b → b ≡ true →
    d ≡ true → AreJoinedByTouch G L N d
by_touch_new G L M N a b d f g e is =
    subst (AreJoinedByTouch G L N) (ap (λ x. a || x) e ∙ or-true a ∙ sym is) (by_touch_through G L M N a b f g)

pub by_touch_old : (G : Generation) (L M N : Labels) (a b d : Bool) → AreJoinedByTouch G L M a → AreJoinedByTouch G M N b → b ≡ false →
    d ≡ a → AreJoinedByTouch G L N d
by_touch_old G L M N a b d f g e is =
    subst (AreJoinedByTouch G L N) (ap (λ x. a || x) e ∙ or-false a ∙ sym is) (by_touch_through G L M N a b f g)

-- what is one stays one
pub one_further : (L M : Labels) (b : Bool) → AreJoinedFurther L M b → (m k : ℕ) → AreOne L m k → AreOne M m k
one_further L M b f m k one =
    subst (λ ls. root M.forest.items (get_or ls m 0) ≡ root M.forest.items (get_or ls k 0)) (sym f.labels)
    (f.coarser (get_or L.labels.items m 0) (get_or L.labels.items k 0) one)

pub met_further : (G : Generation) (L M : Labels) (b : Bool) → AreJoinedFurther L M b → (n number : ℕ) → HasMet G L n number → HasMet G M n number
met_further G L M b f n number met m h same = one_further L M b f n m (met m h same)

-- ---- a cell is joined with one of the first four around it

module _ (G : Generation) (old new : Labels) (fits : Fits G old) (n at number : ℕ) (n_in : n < length (cells G)) (at_in : at < length (cells G))
    (few : number < 4) (is : get_or (cells G) at origin ≡ cell_at (get_or (cells G) n origin) number) (b : Bool)
    (same : new.labels.items ≡ old.labels.items)
    (join : IsJoined old.forest.items new.forest.items (get_or old.labels.items n 0) (get_or old.labels.items at 0) b) where
  abbrev one : ℕ
  one = get_or old.labels.items n 0

  abbrev other : ℕ
  other = get_or old.labels.items at 0

  abbrev cell : ℕ → Cell
  cell m = get_or (cells G) m origin

  near : IsNear (cell at) (cell n)
  near = subst (λ c. IsNear c (cell n)) (sym is) (near_first (cell n) number few)

  live : (m : ℕ) → m < length (cells G) → contains G (cell m) ≡ true
  live m h = listed_cell G (cells G) m refl h

  one_in : one < length old.forest.items
  one_in = let long = fits.long in fits.below n 0 (omega arith)

  other_in : other < length old.forest.items
  other_in = let long = fits.long in fits.below at 0 (omega arith)

  keeps : (R : Rule) → KeepsTied R G old new
  keeps R P g firsts now labels tied k l h i =
      let N = length old.forest.items in
      let long = join.long in
      let Tied = λ (a e : ℕ). AreTied R P 0 (get_or firsts a origin) 0 (get_or firsts e origin) in
      let in_now = λ (m : ℕ) (w : m < length (cells G)). ap (λ H. contains H (cell m)) now ∙ live m w in
      let beside_it : AreTied R P g (cell at) g (cell n) = touching g (cell at) (cell n) (in_now at at_in) (in_now n n_in) near in
      let it : Tied one other =
      through 0 g 0 (get_or firsts one origin) (cell n) (get_or firsts other origin) (labels n n_in)
      (through g g 0 (cell n) (cell at) (get_or firsts other origin) (swapped g g (cell at) (cell n) beside_it)
      (swapped 0 g (get_or firsts other origin) (cell at) (labels at at_in))) in
      joined_so old.forest.items new.forest.items one other b join N one_in other_in Tied
      (λ a e t. swapped 0 0 (get_or firsts a origin) (get_or firsts e origin) t)
      (λ a e o t u. through 0 0 0 (get_or firsts a origin) (get_or firsts e origin) (get_or firsts o origin) t u)
      tied it k l (omega arith) (omega arith)

  joins : AreJoinedWithin G old → AreJoinedWithin G new
  joins before m k h i one_root =
      let root_same = subst (λ ls. root new.forest.items (get_or ls m 0) ≡ root new.forest.items (get_or ls k 0)) same one_root in
      let it : AreJoined G (cell at) (cell n) = beside (cell at) (cell n) (live at at_in) (live n n_in) near in
      elim (join.only (get_or old.labels.items m 0) (get_or old.labels.items k 0) root_same) [
        | inl already ↦ before m k h i already
        | inr anew ↦ elim anew [
          | inl straight ↦
              chained (cell m) (cell n) (cell k) (before m n h n_in straight.0)
              (chained (cell n) (cell at) (cell k) (turned (cell at) (cell n) it) (before at k at_in i (sym straight.1)))
          | inr crossed ↦
              chained (cell m) (cell at) (cell k) (before m at h at_in crossed.0)
              (chained (cell at) (cell n) (cell k) it (before n k n_in i (sym crossed.1)))
        ]
      ]

  pub joined_by_touch : AreJoinedByTouch G old new b
  joined_by_touch = record { further = further_by_join old new one other b join same; tied = keeps; joined = joins }

  pub has_met : HasMet G new n number
  has_met m h e =
      let L = new.labels.items in
      let F = new.forest.items in
      let long = ap length same ∙ fits.long in
      ap (λ ls. root F (get_or ls n 0)) same ∙ join.both ∙ ap (λ ls. root F (get_or ls at 0)) (sym same)
      ∙ sym (mark-at G L F long at origin at_in) ∙ ap (mark_of G L F) (is ∙ sym e) ∙ mark-at G L F long m origin h

-- where there is no cell
pub none_met : (G : Generation) (L : Labels) (n number : ℕ) (c : Cell) → c ≡ cell_at (get_or (cells G) n origin) number →
    contains G c ≡ false → HasMet G L n number
none_met G L n number c is none m h e =
    absurd (both_ways (contains G c) none (ap (contains G) (is ∙ sym e) ∙ listed_cell G (cells G) m refl h))

-- ---- all cells are joined with those before them

pub whole_by_met : (G : Generation) (L : Labels) → Fits G L → ((n number : ℕ) → n < length (cells G) → number < 4 → HasMet G L n number) →
    AreOfWholeIslands G (sets_of G L)
whole_by_met G L fits met c e h k near =
    let ls = L.labels.items in
    let F = L.forest.items in
    let at_c = place_in_list G (cells G) refl c h in
    let at_e = place_in_list G (cells G) refl e k in
    let of_c = mark-at G ls F fits.long at_c.0 origin at_c.1 in
    let of_e = mark-at G ls F fits.long at_e.0 origin at_e.1 in
    let meet = λ (m j number : ℕ) (w : m < length (cells G)) (v : j < length (cells G)) (few : number < 4)
    (x y : Cell) (is_x : get_or (cells G) m origin ≡ x) (is_y : get_or (cells G) j origin ≡ y) (y_is : cell_at x number ≡ y).
    met m number w few j v (is_y ∙ sym y_is ∙ ap (λ z. cell_at z number) (sym is_x)) in
    let one : root F (get_or ls at_c.0 0) ≡ root F (get_or ls at_e.0 0) =
    elim (cases_Bool (same_cell c e)) [
      | inl same ↦
          sym of_c ∙ ap (mark_of G ls F) (at_c.2 ∙ (same_cell-is c e).0 same ∙ sym at_e.2) ∙ of_e
      | inr differ ↦ elim (first_four e c near (λ same. both_ways (same_cell c e) differ ((same_cell-is c e).1 same))) [
        | inl x ↦ sym (meet at_e.0 at_c.0 x.0 at_e.1 at_c.1 x.1 e c at_e.2 at_c.2 x.2)
        | inr x ↦ meet at_c.0 at_e.0 x.0 at_c.1 at_e.1 x.1 c e at_c.2 at_e.2 x.2
      ]
    ] in
    whole_by_mark G L fits c e k
    (sym (ap (mark_of G ls F) at_c.2) ∙ of_c ∙ one ∙ sym of_e ∙ ap (mark_of G ls F) at_e.2)

-- ---- islands

pub numbered_fits : (G : Generation) (L : Labels) → AreNumbered G L → Fits G L
numbered_fits G L numbered =
    let N = length (cells G) in
    record {
      long = ap length numbered.labels ∙ length-range_with_len 0 N;
      below = subst (All (λ l. l < length L.forest.items)) (sym numbered.labels) (λ k d h.
          let at = get_or-range_with_len 0 N k d (omega (arith, length-range_with_len 0 N)) in
          let long = numbered.long in
          omega (arith, length-range_with_len 0 N));
    }

-- where none are joined each number is its own root
root-range : (n k : ℕ) → k < n → root (range_with_len 0 n) k ≡ k
root-range n k h = root-stays (range_with_len 0 n) k (omega (arith, get_or-range_with_len 0 n k k h))

pub none_joined : (G : Generation) (L : Labels) → AreNumbered G L → L.forest.items ≡ range_with_len 0 (length (cells G)) → AreJoinedWithin G L
none_joined G L numbered alone_all m k h i same =
    let N = length (cells G) in
    let R = range_with_len 0 N in
    let to = λ (j : ℕ) (w : j < N).
    ap (λ f. root f (get_or L.labels.items j 0)) alone_all ∙ ap (λ ls. root R (get_or ls j 0)) numbered.labels
    ∙ ap (root R) (get_or-range_with_len 0 N j 0 w) ∙ root-range N (0 + j) (omega arith) in
    let one : 0 + m ≡ 0 + k = sym (to m h) ∙ same ∙ to k i in
    let one_place : m ≡ k = omega arith in
    let c = get_or (cells G) m origin in
    subst (λ j. AreJoined G c (get_or (cells G) j origin)) one_place (alone c (listed_cell G (cells G) m refl h))

pub islands_by : (G : Generation) (L : Labels) → Fits G L → AreOfWholeIslands G (sets_of G L) → AreJoinedWithin G L →
    AreIslands G (sets_of G L)
islands_by G L fits whole within =
    let ls = L.labels.items in
    let F = L.forest.items in
    let long = length-sets G ls F in
    record {
      together = (make_up G L fits).together;
      pieces = λ k d h.
          let k_in : k < length F = omega arith in
          record {
            within = λ c a. (of_set G ls F k d c k_in a).0;
            joined = λ c e a b.
                let of_c = of_set G ls F k d c k_in a in
                let of_e = of_set G ls F k d e k_in b in
                let at_c = place_in_list G (cells G) refl c of_c.0 in
                let at_e = place_in_list G (cells G) refl e of_e.0 in
                let same : root F (get_or ls at_c.0 0) ≡ root F (get_or ls at_e.0 0) =
                sym (mark-at G ls F fits.long at_c.0 origin at_c.1) ∙ ap (mark_of G ls F) at_c.2 ∙ of_c.1 ∙ sym of_e.1
                ∙ sym (ap (mark_of G ls F) at_e.2) ∙ mark-at G ls F fits.long at_e.0 origin at_e.1 in
                subst (λ x. AreJoined G x e) at_c.2 (subst (AreJoined G (get_or (cells G) at_c.0 origin)) at_e.2
                (within at_c.0 at_e.0 at_c.1 at_e.1 same));
          };
      apart = λ i j d less h c e a b near.
          let of_c = of_set G ls F i d c (omega arith) a in
          let of_e = of_set G ls F j d e (omega arith) b in
          let same : i ≡ j = sym of_c.1 ∙ mark_by_whole G L fits c e of_c.0 (whole c e of_c.0 of_e.0 near) ∙ of_e.1 in
          omega arith;
    }
