-- What recurs moves by no more cells in a period than the period has generations.
use Rattle.std.proofs.Common.{◌≡◌, ℕ, zero, suc, ◌+◌, ◌*◌, ◌≤◌, true, inl, inr, ◌⊎◌, ℤ, pos, negsuc, neg_ℤ, ◌+ℤ◌, ◌-ℤ◌, ◌≤ℤ◌, nat_le, ap, ◌∙◌, arith, le-leb}
use Rattle.std.specs.Prelude.{unsigned_abs}
use Rattle.std.proofs.lemmas.Bool.{and_from, cases_lt}
use Rattle.std.proofs.lemmas.Int.{ints}
use Rattle.census_readback.specs.Lawful.{moves_within}
use Rattle.life_model.specs.Cell.{Cell, IsNear, origin, plus}
use Rattle.life_model.specs.Rule.{Rule}
use Rattle.life_model.specs.Generation.{Generation, contains, empty}
use Rattle.life_model.specs.Evolution.{generation}
use Rattle.life_model.specs.Symmetry.{translate_of}
use Rattle.life_model.proofs.Cells.{plus-opposite}
use Rattle.life_model.proofs.Moves.{nothing_or_some}
use Rattle.life_model.proofs.Near.{next_near}
use Rattle.life_model.proofs.Symmetries.{contains-moved}
use Rattle.life_objects.proofs.DecidedLemmas.Reaching.{IsReached, reached_now}
use Rattle.life_objects.specs.Decided.Parts.{reach}

-- a is no more than n from b, across and along
record IsWithin (n : ℕ) (a b : Cell) : Type 0 where
  left : (b.0 -ℤ pos n) ≤ℤ a.0
  right : a.0 ≤ℤ (b.0 +ℤ pos n)
  above : (b.1 -ℤ pos n) ≤ℤ a.1
  below : a.1 ≤ℤ (b.1 +ℤ pos n)

at_itself : (c : Cell) → IsWithin 0 c c
at_itself c = record {
  left = omega (arith, ints);
  right = omega (arith, ints);
  above = omega (arith, ints);
  below = omega (arith, ints);
}

one_further : (n : ℕ) (c g e : Cell) → IsNear c g → IsWithin n g e → IsWithin (suc n) c e
one_further n c g e near h =
    let near_left = near.left in
    let near_right = near.right in
    let near_above = near.above in
    let near_below = near.below in
    let left = h.left in
    let right = h.right in
    let above = h.above in
    let below = h.below in
    record {
      left = omega (arith, ints);
      right = omega (arith, ints);
      above = omega (arith, ints);
      below = omega (arith, ints);
    }

-- each cell of a later generation comes from one of the first
traced : (R : Rule) (G : Generation) (n : ℕ) (c : Cell) → contains (generation R G n) c ≡ true → (g : Cell) × (contains G g ≡ true) × IsWithin n c g
unfolding generation
traced R G zero c h = (c, h, at_itself c)
traced R G (suc n) c h =
    let g = next_near R (generation R G n) c h in
    let first = traced R G n g.0 g.1 in
    (first.0, first.1, one_further n c g.0 first.0 g.2 first.2)

-- ---- a set in which each cell is followed by a further one has no cell

module _ (G : Generation) (f : Cell → ℤ)
    (bounded : (c : Cell) → IsReached (reach G) c → (neg_ℤ (pos (reach G)) ≤ℤ f c) × (f c ≤ℤ pos (reach G)))
    (further : (c : Cell) → contains G c ≡ true → (g : Cell) × (contains G g ≡ true) × ((f c +ℤ pos 1) ≤ℤ f g)) where
  climb : (c : Cell) → contains G c ≡ true → (k : ℕ) → (g : Cell) × (contains G g ≡ true) × ((f c +ℤ pos k) ≤ℤ f g)
  climb c h zero = (c, h, omega (arith, ints))
  climb c h (suc k) =
      let g = climb c h k in
      let m = further g.0 g.1 in
      let so_far = g.2 in
      let more = m.2 in
      (m.0, m.1, omega (arith, ints))

  nowhere : (c : Cell) → contains G c ≡ true → ⊥
  nowhere c h =
      let k : ℕ = 2 * reach G + 1 in
      let g = climb c h k in
      let far = g.2 in
      let low = (bounded c (reached_now G c h)).0 in
      let high = (bounded g.0 (reached_now G g.0 g.1)).1 in
      omega (arith, ints)

-- ---- what recurs

at_most_or_more : (z : ℤ) (n : ℕ) → (z ≤ℤ pos n) ⊎ ((pos n +ℤ pos 1) ≤ℤ z)
at_most_or_more (pos m) n =
    elim (cases_lt n m) [
      | inl more ↦ inr (omega (arith, ints))
      | inr not_more ↦ inl (omega (arith, ints))
    ]
at_most_or_more (negsuc m) n = inl (omega (arith, ints))

record IsMove (p : ℕ) (d : Cell) : Type 0 where
  not_right : d.0 ≤ℤ pos p
  not_left : neg_ℤ d.0 ≤ℤ pos p
  not_below : d.1 ≤ℤ pos p
  not_above : neg_ℤ d.1 ≤ℤ pos p

module _ (R : Rule) (G : Generation) (p : ℕ) (d : Cell) (again : generation R G p ≡ translate_of G d) where
  -- each of its cells, moved, comes from one of its own
  moved_from : (c : Cell) → contains G c ≡ true → (g : Cell) × (contains G g ≡ true) × IsWithin p (plus c d) g
  moved_from c h =
      traced R G p (plus c d) (ap (λ H. contains H (plus c d)) again ∙ contains-moved G d (plus c d) ∙ ap (contains G) (plus-opposite c d) ∙ h)

  moves : (c : Cell) → contains G c ≡ true → IsMove p d
  moves c h = record {
    not_right =
        elim (at_most_or_more d.0 p) [
          | inl within ↦ within
          | inr more ↦ absurd (nowhere G (λ c. c.0) (λ c r. (r.left, r.right)) (λ c h.
              let g = moved_from c h in
              let near = g.2.right in
              (g.0, g.1, omega (arith, ints))) c h)
        ];
    not_left =
        elim (at_most_or_more (neg_ℤ d.0) p) [
          | inl within ↦ within
          | inr more ↦ absurd (nowhere G (λ c. neg_ℤ c.0)
              (λ c r. let left = r.left in let right = r.right in (omega (arith, ints), omega (arith, ints))) (λ c h.
              let g = moved_from c h in
              let near = g.2.left in
              (g.0, g.1, omega (arith, ints))) c h)
        ];
    not_below =
        elim (at_most_or_more d.1 p) [
          | inl within ↦ within
          | inr more ↦ absurd (nowhere G (λ c. c.1) (λ c r. (r.above, r.below)) (λ c h.
              let g = moved_from c h in
              let near = g.2.below in
              (g.0, g.1, omega (arith, ints))) c h)
        ];
    not_above =
        elim (at_most_or_more (neg_ℤ d.1) p) [
          | inl within ↦ within
          | inr more ↦ absurd (nowhere G (λ c. neg_ℤ c.1)
              (λ c r. let above = r.above in let below = r.below in (omega (arith, ints), omega (arith, ints))) (λ c h.
              let g = moved_from c h in
              let near = g.2.above in
              (g.0, g.1, omega (arith, ints))) c h)
        ];
  }

abs-within : (z : ℤ) (p : ℕ) → z ≤ℤ pos p → neg_ℤ z ≤ℤ pos p → unsigned_abs z ≤ p
abs-within (pos n) p h k = omega (arith, ints)
abs-within (negsuc n) p h k = omega (arith, ints)

within-move : (p : ℕ) (d : Cell) → IsMove p d → moves_within p d.0 d.1 ≡ true
within-move p d h =
    and_from (nat_le (unsigned_abs d.0) p) (nat_le (unsigned_abs d.1) p)
    (le-leb (unsigned_abs d.0) p (abs-within d.0 p h.not_right h.not_left))
    (le-leb (unsigned_abs d.1) p (abs-within d.1 p h.not_below h.not_above))

nowhere-moved : (p : ℕ) → moves_within p (pos 0) (pos 0) ≡ true
nowhere-moved p = and_from (nat_le 0 p) (nat_le 0 p) (le-leb 0 p (omega arith)) (le-leb 0 p (omega arith))

-- a set that recurs as a whole moves by at most a cell in each generation, and nothing doesn't move
pub moved-within : (R : Rule) (G : Generation) (p : ℕ) (d : Cell) → generation R G p ≡ translate_of G d → (G ≡ empty → d ≡ origin) → moves_within p d.0 d.1 ≡ true
moved-within R G p d again unmoved =
    elim (nothing_or_some G) [
      | inl none ↦ ap (λ (e : Cell). moves_within p e.0 e.1) (unmoved none) ∙ nowhere-moved p
      | inr some ↦ within-move p d (moves R G p d again some.0 some.1)
    ]
