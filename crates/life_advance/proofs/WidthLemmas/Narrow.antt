-- What settles within a bound never gets wider than it is at first by more than twice the bound.
use Rattle.std.proofs.Common.{◌≡◌, ℕ, zero, suc, ℤ, pos, ◌+◌, ◌-◌, ◌*◌, ◌≤◌, inl, inr, ◌+ℤ◌, ◌≤ℤ◌, true, sym, ap, subst, ◌∙◌, arith}
use Rattle.std.proofs.lemmas.Bool.{cases_lt}
use Rattle.std.proofs.lemmas.Int.{ints}
use Rattle.life_model.specs.Cell.{Cell, plus, opposite, IsNear}
use Rattle.life_model.specs.Rule.{Rule}
use Rattle.life_model.specs.Generation.{Generation, contains}
use Rattle.life_model.specs.Evolution.{next, generation}
use Rattle.life_model.specs.Recurrence.{SettlesAt}
use Rattle.life_advance.specs.Width.Spans.{SpansColumns, SpansRows}
use Rattle.life_model.specs.Symmetry.{translate_of}
use Rattle.life_model.proofs.Near.{next_near}
use Rattle.life_model.proofs.Orbits.{along}
use Rattle.life_model.proofs.Recurrences.{generation-next, generation-zero, move_from_shape, shape, shape-follows, shape_from_move, way}
use Rattle.life_model.proofs.Symmetries.{contains-moved}

-- a column or a row of a cell, which a move moves for all alike and which differs by at most one for a neighbour
record IsAxis (f : Cell → ℤ) : Type 0 where
  moved : (c d by : Cell) (n : ℕ) → f (plus d (opposite by)) ≤ℤ (f (plus c (opposite by)) +ℤ pos n) → f d ≤ℤ (f c +ℤ pos n)
  left : (c g : Cell) → IsNear c g → f g ≤ℤ (f c +ℤ pos 1)
  right : (c g : Cell) → IsNear c g → f c ≤ℤ (f g +ℤ pos 1)

columns_axis : IsAxis (λ c. c.0)
columns_axis = record {
  moved = λ c d by n h. omega (arith, ints, h);
  left = λ c g near. let h = near.left in omega (arith, ints, h);
  right = λ c g near. near.right;
}

rows_axis : IsAxis (λ c. c.1)
rows_axis = record {
  moved = λ c d by n h. omega (arith, ints, h);
  left = λ c g near. let h = near.above in omega (arith, ints, h);
  right = λ c g near. near.below;
}

module _ (f : Cell → ℤ) (axis : IsAxis f) where
  abbrev Spans : Generation → ℕ → Type 0
  Spans G n = (c d : Cell) → contains G c ≡ true → contains G d ≡ true → f d ≤ℤ (f c +ℤ pos n)

  step_apart : (a b c d : ℤ) (n : ℕ) → b ≤ℤ (d +ℤ pos 1) → d ≤ℤ (c +ℤ pos n) → c ≤ℤ (a +ℤ pos 1) → b ≤ℤ (a +ℤ pos (n + 2))
  step_apart a b c d n h k l = omega (arith, ints, h, k, l)

  spans_next : (R : Rule) (G : Generation) (n : ℕ) → Spans G n → Spans (next R G) (n + 2)
  spans_next R G n span c d live also =
      let left = next_near R G c live in
      let right = next_near R G d also in
      step_apart (f c) (f d) (f left.0) (f right.0) n (axis.right d right.0 right.2) (span left.0 right.0 left.1 right.1) (axis.left c left.0 left.2)

  spans_moved : (G : Generation) (n : ℕ) (by : Cell) → Spans G n → Spans (translate_of G by) n
  spans_moved G n by span c d live also =
      axis.moved c d by n (span (plus c (opposite by)) (plus d (opposite by)) (sym (contains-moved G by c) ∙ live) (sym (contains-moved G by d) ∙ also))

  wider : (a b : ℤ) (m n : ℕ) → m ≤ n → b ≤ℤ (a +ℤ pos m) → b ≤ℤ (a +ℤ pos n)
  wider a b m n h k = omega (arith, ints, h, k)

  spans_wider : (G : Generation) (m n : ℕ) → m ≤ n → Spans G m → Spans G n
  spans_wider G m n h span c d live also = wider (f c) (f d) m n h (span c d live also)

  spans_later : (R : Rule) (G : Generation) (n t : ℕ) → Spans G n → Spans (generation R G t) (n + 2 * t)
  spans_later R G n zero span =
      spans_wider (generation R G 0) n (n + 2 * 0) (omega arith) (subst (λ H. Spans H n) (sym (generation-zero R G)) span)
  spans_later R G n (suc t) span =
      let now = spans_next R (generation R G t) (n + 2 * t) (spans_later R G n t span) in
      let e : next R (generation R G t) ≡ generation R G (suc t) = sym (generation-next R G t) ∙ ap (generation R G) (let q : t + 1 ≡ suc t = omega arith in q) in
      spans_wider (generation R G (suc t)) ((n + 2 * t) + 2) (n + 2 * suc t) (omega arith)
      (subst (λ H. Spans H ((n + 2 * t) + 2)) e now)

  -- a generation after the one at which a set settles is an earlier one, moved
  earlier : (R : Rule) (G : Generation) (g steps t : ℕ) (by : Cell) → generation R G (g + steps) ≡ translate_of (generation R G g) by → g + steps ≤ t
      → (d : Cell) × (generation R G t ≡ translate_of (generation R G (t - steps)) d)
  earlier R G g steps t by e h =
      let rest : ℕ = t - (g + steps) in
      let same : shape R G ((g + steps) + rest) ≡ shape R G (g + rest) = along (shape R G) (shape-follows R G) rest (g + steps) g (shape_from_move R G g steps by e) in
      let here : (t - steps) + steps ≡ (g + steps) + rest = omega arith in
      let there : g + rest ≡ t - steps = omega arith in
      let again : shape R G ((t - steps) + steps) ≡ shape R G (t - steps) = ap (shape R G) here ∙ same ∙ ap (shape R G) there in
      let back : t ≡ (t - steps) + steps = omega arith in
      (way R G (t - steps) steps, ap (generation R G) back ∙ move_from_shape R G (t - steps) steps again)

  stays_from : (R : Rule) (G : Generation) (b g n : ℕ) → SettlesAt R G b g → Spans G n → (most t : ℕ) → t ≤ b + most → Spans (generation R G t) (n + 2 * b)
  stays_from R G b g n s span zero t h = spans_wider (generation R G t) (n + 2 * t) (n + 2 * b) (omega (arith, h)) (spans_later R G n t span)
  stays_from R G b g n s span (suc most) t h =
      let within : g + s.steps ≤ b = s.within in
      let some : 1 ≤ s.steps = s.later in
      elim (cases_lt b t) [
        | inr early ↦ spans_wider (generation R G t) (n + 2 * t) (n + 2 * b) (omega (arith, early)) (spans_later R G n t span)
        | inl late ↦
            let found = earlier R G g s.steps t s.by s.again (omega (arith, late, within)) in
            subst (λ H. Spans H (n + 2 * b)) (sym found.1)
            (spans_moved (generation R G (t - s.steps)) (n + 2 * b) found.0
            (stays_from R G b g n s span most (t - s.steps) (omega (arith, h, some))))
      ]

  stays_narrow : (R : Rule) (G : Generation) (b g n t : ℕ) → SettlesAt R G b g → Spans G n → Spans (generation R G t) (n + 2 * b)
  stays_narrow R G b g n t s span = stays_from R G b g n s span t t (omega arith)

pub columns_stay : (R : Rule) (G : Generation) (b g n t : ℕ) → SettlesAt R G b g → SpansColumns G n → SpansColumns (generation R G t) (n + 2 * b)
columns_stay R G b g n t s span = stays_narrow (λ c. c.0) columns_axis R G b g n t s span

pub rows_stay : (R : Rule) (G : Generation) (b g n t : ℕ) → SettlesAt R G b g → SpansRows G n → SpansRows (generation R G t) (n + 2 * b)
rows_stay R G b g n t s span = stays_narrow (λ c. c.1) rows_axis R G b g n t s span
