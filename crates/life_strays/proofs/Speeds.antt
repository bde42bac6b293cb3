-- What recurs, moved, has moved along each axis by no more cells than that took generations.
use Rattle.std.proofs.Common.{◌≡◌, ℕ, zero, suc, ℤ, pos, neg_ℤ, ◌+ℤ◌, ◌≤ℤ◌, ◌<◌, true, List, [], ◌∷◌, inl, inr, sym, refl, ap, subst, ◌∙◌, true≢false, arith}
use Rattle.std.specs.Int.{int_min}
use Rattle.std.specs.List.{list_any}
use Rattle.std.proofs.lemmas.Bool.{or_cases, or_left, or_right}
use Rattle.std.proofs.lemmas.Int.{clamps, ints}
use Rattle.life_model.specs.Cell.{Cell, IsNear, plus, same_cell}
use Rattle.life_model.specs.Rule.{Rule}
use Rattle.life_model.specs.Generation.{Generation, cells, contains}
use Rattle.life_model.specs.Evolution.{next}
use Rattle.life_model.specs.Symmetry.{translate_of}
use Rattle.life_objects.specs.Union.{IsSubsetOf}
use Rattle.life_model.proofs.Cells.{plus-opposite, same_cell-is}
use Rattle.life_model.proofs.Generations.{contains-cells}
use Rattle.life_model.proofs.Moves.{same_cell_itself, same_le, le_le, min_one}
use Rattle.life_model.proofs.Near.{next_near}
use Rattle.life_model.proofs.Symmetries.{contains-moved}

-- a number for each cell, which rises by that of a move and by no more than one to a neighbour
pub record IsHeight (f : Cell → ℤ) : Type 0 where
  pub adds : (c d : Cell) → f (plus c d) ≡ f c +ℤ f d
  pub near : (c g : Cell) → IsNear c g → f g ≤ℤ (f c +ℤ pos 1)

one_further : (n : ℕ) (a b c : ℤ) → a ≤ℤ (b +ℤ pos n) → b ≤ℤ (c +ℤ pos 1) → a ≤ℤ (c +ℤ pos (suc n))
one_further n a b c h k = omega (arith, ints)

no_further : (a : ℤ) → a ≤ℤ (a +ℤ pos 0)
no_further a = omega (arith, ints)

not_below : (n : ℕ) (m d g : ℤ) → m ≤ℤ g → g ≤ℤ ((m +ℤ d) +ℤ pos n) → neg_ℤ (pos n) ≤ℤ d
not_below n m d g h k = omega (arith, ints)

first_least : (a b : ℤ) → int_min a b ≡ a → a ≤ℤ b
first_least a b e = omega (arith, ints, clamps)

other_least : (a b : ℤ) → int_min a b ≡ b → b ≤ℤ a
other_least a b e = omega (arith, ints, clamps)

module _ (f : Cell → ℤ) where
  -- a cell of a list that none of its cells is below
  record IsLowest (cs : List Cell) (m : Cell) : Type 0 where
    has : list_any (same_cell m) cs ≡ true
    low : (q : Cell) → list_any (same_cell q) cs ≡ true → f m ≤ℤ f q

  lowest : (c : Cell) (cs : List Cell) → (m : Cell) × IsLowest (c ∷ cs) m
  lowest c [] = (
    c,
    record {
      has = or_left _ _ (same_cell_itself c);
      low = λ q e. elim (or_cases (same_cell q c) _ e) [
        | inl same ↦ same_le (f c) (f q) (ap f (sym ((same_cell-is q c).0 same)))
        | inr later ↦ absurd (true≢false (sym later))
      ];
    },
  )
  lowest c (d ∷ ds) =
      let r = lowest d ds in
      elim (min_one (f c) (f r.0)) [
        | inl first ↦ (
          c,
          record {
            has = or_left _ _ (same_cell_itself c);
            low = λ q e. elim (or_cases (same_cell q c) _ e) [
              | inl same ↦ same_le (f c) (f q) (ap f (sym ((same_cell-is q c).0 same)))
              | inr later ↦ le_le (f c) (f r.0) (f q) (first_least (f c) (f r.0) first) (r.1.low q later)
            ];
          },
        )
        | inr other ↦ (
          r.0,
          record {
            has = or_right _ _ r.1.has;
            low = λ q e. elim (or_cases (same_cell q c) _ e) [
              | inl same ↦ le_le (f r.0) (f c) (f q) (other_least (f c) (f r.0) other)
                  (same_le (f c) (f q) (ap f (sym ((same_cell-is q c).0 same))))
              | inr later ↦ r.1.low q later
            ];
          },
        )
      ]

  lowest_of : (G : Generation) (c : Cell) → contains G c ≡ true →
      (m : Cell) × (contains G m ≡ true) × ((q : Cell) → contains G q ≡ true → f m ≤ℤ f q)
  lowest_of G c h =
      elim (cells G) as (λ cs. cells G ≡ cs →
      (m : Cell) × (contains G m ≡ true) × ((q : Cell) → contains G q ≡ true → f m ≤ℤ f q)) [
        | [] ↦ λ e. absurd (true≢false (sym h ∙ contains-cells G c ∙ ap (list_any (same_cell c)) e))
        | k ∷ ks ↦ λ e.
            let listed : (q : Cell) → contains G q ≡ list_any (same_cell q) (k ∷ ks) =
            λ q. contains-cells G q ∙ ap (list_any (same_cell q)) e in
            let r = lowest k ks in
            (r.0, listed r.0 ∙ r.1.has, λ q j. r.1.low q (sym (listed q) ∙ j))
      ] refl

  module _ (is : IsHeight f) (R : Rule) (sets : ℕ → Generation) where
    -- each of the first n sets becomes the next one, and perhaps more
    abbrev BecomesEach : ℕ → Type 0
    BecomesEach n = (m : ℕ) → m < n → IsSubsetOf (sets (suc m)) (next R (sets m))

    -- a cell of set n is no more than n below some cell of the first
    reached : (n : ℕ) → BecomesEach n → (c : Cell) → contains (sets n) c ≡ true →
        (g : Cell) × (contains (sets 0) g ≡ true) × (f g ≤ℤ (f c +ℤ pos n))
    reached zero step c h = (c, h, no_further (f c))
    reached (suc n) step c h =
        let near = next_near R (sets n) c (step n (omega arith) c h) in
        let far = reached n (λ m k. step m (omega arith)) near.0 near.1 in
        (far.0, far.1, one_further n (f far.0) (f near.0) (f c) far.2 (is.near c near.0 near.2))

    pub no_lower : (n : ℕ) (d c : Cell) → BecomesEach n → IsSubsetOf (translate_of (sets 0) d) (sets n) →
        contains (sets 0) c ≡ true → neg_ℤ (pos n) ≤ℤ f d
    no_lower n d c step again h =
        let m = lowest_of (sets 0) c h in
        let there : contains (sets n) (plus m.0 d) ≡ true =
        again (plus m.0 d) (contains-moved (sets 0) d (plus m.0 d) ∙ ap (contains (sets 0)) (plus-opposite m.0 d) ∙ m.1) in
        let g = reached n step (plus m.0 d) there in
        not_below n (f m.0) (f d) (f g.0) (m.2 g.0 g.1)
        (subst (λ z. f g.0 ≤ℤ (z +ℤ pos n)) (is.adds m.0 d) g.2)

pub across_height : IsHeight (λ c. c.0)
across_height = record { adds = λ c d. refl; near = λ c g h. omega (arith, ints, h.right, h.left) }

pub back_height : IsHeight (λ c. neg_ℤ c.0)
back_height = record { adds = λ c d. omega (arith, ints); near = λ c g h. omega (arith, ints, h.right, h.left) }

pub along_height : IsHeight (λ c. c.1)
along_height = record { adds = λ c d. refl; near = λ c g h. omega (arith, ints, h.above, h.below) }

pub up_height : IsHeight (λ c. neg_ℤ c.1)
up_height = record { adds = λ c d. omega (arith, ints); near = λ c g h. omega (arith, ints, h.above, h.below) }
