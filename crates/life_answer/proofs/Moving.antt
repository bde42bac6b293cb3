-- An engine moves by no more cells in a period than the period has generations.
use Rattle.std.proofs.Common.{◌≡◌, ℕ, zero, suc, ◌+◌, ◌*◌, ◌≤◌, ◌||◌, true, inl, inr, ◌⊎◌, ℤ, pos, negsuc, neg_ℤ, ◌+ℤ◌, ◌-ℤ◌, ◌≤ℤ◌, sym, ap, ◌∙◌, arith}
use Rattle.std.proofs.lemmas.Bool.{cases_lt}
use Rattle.std.proofs.lemmas.Int.{ints}
use Rattle.life_model.specs.Cell.{Cell, IsNear, plus}
use Rattle.life_model.specs.Rule.{Rule}
use Rattle.life_model.specs.Generation.{Generation, contains}
use Rattle.life_model.specs.Evolution.{next}
use Rattle.life_model.proofs.Cells.{plus-opposite}
use Rattle.life_model.proofs.Moves.{nothing_or_some}
use Rattle.life_model.proofs.Near.{next_near}
use Rattle.life_model.proofs.Symmetries.{contains-moved}
use Rattle.life_objects.proofs.Unions.{contains-union}
use Rattle.life_objects.specs.Decided.Parts.{reach}
use Rattle.life_objects.proofs.DecidedLemmas.Reaching.{IsReached, reached_now}
use Rattle.life_growth.specs.Engine.{IsEngine, Way}
use Rattle.life_growth.proofs.OneGrowth.{IsUnsplit-engine}

-- a is no more than n from b, across and along
record IsWithin (n : ℕ) (a b : Cell) : Type 0 where
  left : (b.0 -ℤ pos n) ≤ℤ a.0
  right : a.0 ≤ℤ (b.0 +ℤ pos n)
  above : (b.1 -ℤ pos n) ≤ℤ a.1
  below : a.1 ≤ℤ (b.1 +ℤ pos n)

at_most_or_more : (z : ℤ) (n : ℕ) → (z ≤ℤ pos n) ⊎ ((pos n +ℤ pos 1) ≤ℤ z)
at_most_or_more (pos m) n =
    elim (cases_lt n m) [
      | inl more ↦ inr (omega (arith, ints))
      | inr not_more ↦ inl (omega (arith, ints))
    ]
at_most_or_more (negsuc m) n = inl (omega (arith, ints))

-- ---- a set in which each cell is followed by a further one has no cell

module _ (E : Generation) (f : Cell → ℤ)
    (bounded : (c : Cell) → IsReached (reach E) c → (neg_ℤ (pos (reach E)) ≤ℤ f c) × (f c ≤ℤ pos (reach E)))
    (further : (c : Cell) → contains E c ≡ true → (g : Cell) × (contains E g ≡ true) × ((f c +ℤ pos 1) ≤ℤ f g)) where
  climb : (c : Cell) → contains E c ≡ true → (k : ℕ) → (g : Cell) × (contains E g ≡ true) × ((f c +ℤ pos k) ≤ℤ f g)
  climb c h zero = (c, h, omega (arith, ints))
  climb c h (suc k) =
      let g = climb c h k in
      let m = further g.0 g.1 in
      let so_far = g.2 in
      let more = m.2 in
      (m.0, m.1, omega (arith, ints))

  nowhere : (c : Cell) → contains E c ≡ true → ⊥
  nowhere c h =
      let k : ℕ = 2 * reach E + 1 in
      let g = climb c h k in
      let far = g.2 in
      let low = (bounded c (reached_now E c h)).0 in
      let high = (bounded g.0 (reached_now E g.0 g.1)).1 in
      omega (arith, ints)

-- ---- engines

module _ (R : Rule) (b : ℕ) (E : Generation) (way : Way) (engine : IsEngine R b E way) where
  one_further : (n : ℕ) (c g e : Cell) → IsNear c g → IsWithin n g e → IsWithin (suc n) c e
  one_further n c g e near h =
      let near_left = near.left in
      let near_right = near.right in
      let near_above = near.above in
      let near_below = near.below in
      let left = h.left in
      let right = h.right in
      let above = h.above in
      let below = h.below in
      record {
        left = omega (arith, ints);
        right = omega (arith, ints);
        above = omega (arith, ints);
        below = omega (arith, ints);
      }

  at_itself : (c : Cell) → IsWithin 0 c c
  at_itself c = record {
    left = omega (arith, ints);
    right = omega (arith, ints);
    above = omega (arith, ints);
    below = omega (arith, ints);
  }

  -- each cell of its core comes from one of its own
  traced : (n : ℕ) → n ≤ way.period → (c : Cell) → contains (way.core n) c ≡ true →
      (g : Cell) × (contains E g ≡ true) × IsWithin n c g
  traced zero le c h = (c, ap (λ H. contains H c) (sym engine.start) ∙ h, at_itself c)
  traced (suc n) le c h =
      let leaves = engine.leaves n (omega arith) in
      let there : contains (next R (way.core n)) c ≡ true =
      ap (λ H. contains H c) (sym leaves.together) ∙ contains-union (way.core (suc n)) (way.left n) c
      ∙ ap (λ t. t || contains (way.left n) c) h in
      let g = next_near R (way.core n) c there in
      let first = traced n (omega arith) g.0 g.1 in
      (first.0, first.1, one_further n c g.0 first.0 g.2 first.2)

  abbrev d : Cell
  d = way.displacement

  -- each of its cells, moved, comes from one of its own
  moved_from : (c : Cell) → contains E c ≡ true → (g : Cell) × (contains E g ≡ true) × IsWithin way.period (plus c d) g
  moved_from c h =
      traced way.period (omega arith) (plus c d)
      (ap (λ H. contains H (plus c d)) engine.again ∙ contains-moved E d (plus c d) ∙ ap (contains E) (plus-opposite c d) ∙ h)

  some_cell : (c : Cell) × (contains E c ≡ true)
  some_cell =
      elim (nothing_or_some E) [
        | inl none ↦ absurd ((IsUnsplit-engine R b E way engine).nonempty none)
        | inr some ↦ some
      ]

  abbrev p : ℕ
  p = way.period

  pub not_right : d.0 ≤ℤ pos p
  not_right =
      elim (at_most_or_more d.0 p) [
        | inl within ↦ within
        | inr more ↦ absurd (nowhere E (λ c. c.0) (λ c r. (r.left, r.right)) (λ c h.
            let g = moved_from c h in
            let near = g.2.right in
            (g.0, g.1, omega (arith, ints))) some_cell.0 some_cell.1)
      ]

  pub not_left : neg_ℤ (pos p) ≤ℤ d.0
  not_left =
      elim (at_most_or_more (neg_ℤ d.0) p) [
        | inl within ↦ omega (arith, ints)
        | inr more ↦ absurd (nowhere E (λ c. neg_ℤ c.0)
            (λ c r. let left = r.left in let right = r.right in (omega (arith, ints), omega (arith, ints))) (λ c h.
            let g = moved_from c h in
            let near = g.2.left in
            (g.0, g.1, omega (arith, ints))) some_cell.0 some_cell.1)
      ]

  pub not_below : d.1 ≤ℤ pos p
  not_below =
      elim (at_most_or_more d.1 p) [
        | inl within ↦ within
        | inr more ↦ absurd (nowhere E (λ c. c.1) (λ c r. (r.above, r.below)) (λ c h.
            let g = moved_from c h in
            let near = g.2.below in
            (g.0, g.1, omega (arith, ints))) some_cell.0 some_cell.1)
      ]

  pub not_above : neg_ℤ (pos p) ≤ℤ d.1
  not_above =
      elim (at_most_or_more (neg_ℤ d.1) p) [
        | inl within ↦ omega (arith, ints)
        | inr more ↦ absurd (nowhere E (λ c. neg_ℤ c.1)
            (λ c r. let above = r.above in let below = r.below in (omega (arith, ints), omega (arith, ints))) (λ c h.
            let g = moved_from c h in
            let near = g.2.above in
            (g.0, g.1, omega (arith, ints))) some_cell.0 some_cell.1)
      ]
