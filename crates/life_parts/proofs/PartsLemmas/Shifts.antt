-- Ties of a set that comes again are those of its later generations and of the moved set.
use Rattle.std.proofs.Common.{◌≡◌, ℕ, suc, ◌+◌, ◌-◌, ◌*◌, ◌≤◌, sym, ap, subst, ◌∙◌, arith}
use Rattle.std.proofs.lemmas.Int.{ints}
use Rattle.life_model.specs.Cell.{Cell, origin, plus, opposite}
use Rattle.life_model.specs.Rule.{Rule}
use Rattle.life_model.specs.Generation.{Generation}
use Rattle.life_model.specs.Evolution.{generation}
use Rattle.life_model.specs.Recurrence.{RecursBy}
use Rattle.life_model.specs.Symmetry.{translate_of}
use Rattle.life_model.proofs.Cells.{pair}
use Rattle.life_model.proofs.Moves.{moved-moved, moved-origin}
use Rattle.life_model.proofs.Orbits.{far_enough}
use Rattle.life_model.proofs.Recurrences.{generation-add}
use Rattle.life_model.proofs.Symmetries.{generation-moved}
use Rattle.life_objects.specs.Drift.{multiple_of}
use Rattle.life_objects.proofs.Moving.{RecursBy-times, generation-times}
use Rattle.life_objects.proofs.Recurring.{RecursBy-later, RecursBy-sooner, moved_back}
use Rattle.life_parts.specs.Parts.Ties.{AreTied, before}
use Rattle.life_parts.proofs.PartsLemmas.Along.{tied_moved}
use Rattle.life_parts.proofs.PartsLemmas.Ends.{generation-later}

opposite_twice : (c d : Cell) → plus c (opposite (opposite d)) ≡ plus c d
opposite_twice c d = pair (omega (arith, ints)) (omega (arith, ints))

no_move : (c : Cell) → plus c (opposite origin) ≡ c
no_move c = pair (omega (arith, ints)) (omega (arith, ints))

module _ (R : Rule) (P : Generation) where
  -- the same tie, with its cells and numbers written in another way
  pub rewritten : (n n' m m' : ℕ) (c c' e e' : Cell) → n ≡ n' → m ≡ m' → c ≡ c' → e ≡ e' → AreTied R P n c m e →
      AreTied R P n' c' m' e'
  rewritten n n' m m' c c' e e' i j k l t =
      subst (λ z. AreTied R P n' c' m' z) l (subst (λ z. AreTied R P n' c' z e) j
      (subst (λ z. AreTied R P n' z m e) k (subst (λ z. AreTied R P z c m e) i t)))

  pub RecursBy-moved : (p : ℕ) (d v : Cell) → RecursBy R P p d → RecursBy R (translate_of P v) p d
  RecursBy-moved p d v r = record {
    later = r.later;
    again = generation-moved R P v p ∙ ap (λ H. translate_of H v) r.again ∙ moved-moved P d v
        ∙ ap (translate_of P) (let e : plus d v ≡ plus v d = pair (omega (arith, ints)) (omega (arith, ints)) in e)
        ∙ sym (moved-moved P v d);
  }

module _ (R : Rule) (P : Generation) where
  pub tied_of_moved : (v : Cell) (n m : ℕ) (c e : Cell) → AreTied R P n c m e →
      AreTied R (translate_of P v) n (plus c v) m (plus e v)
  tied_of_moved v n m c e t =
      rewritten R (translate_of P v) (n + 0) n (m + 0) m (plus c (opposite (opposite v))) (plus c v)
      (plus e (opposite (opposite v))) (plus e v) (omega arith) (omega arith) (opposite_twice c v) (opposite_twice e v)
      (tied_moved R (translate_of P v) P 0 (opposite v)
      (λ k. sym (ap (λ H. translate_of H (opposite v))
      (ap (generation R (translate_of P v)) (let q : k + 0 ≡ k = omega arith in q) ∙ generation-moved R P v k)
      ∙ moved_back (generation R P k) v))
      (λ p d r. RecursBy-moved R P p d v r) n m c e t)

module _ (R : Rule) (P : Generation) (p : ℕ) (d : Cell) (r : RecursBy R P p d) where
  -- a period later
  pub tied_later : (n m : ℕ) (c e : Cell) → AreTied R P n c m e → AreTied R P (n + p) (plus c d) (m + p) (plus e d)
  tied_later n m c e t =
      rewritten R P (n + p) (n + p) (m + p) (m + p) (plus c (opposite (opposite d))) (plus c d)
      (plus e (opposite (opposite d))) (plus e d) (omega arith) (omega arith) (opposite_twice c d) (opposite_twice e d)
      (tied_moved R P P p (opposite d)
      (λ k. sym (ap (λ H. translate_of H (opposite d)) (generation-later R P p d r k) ∙ moved_back (generation R P k) d))
      (λ q f s. s) n m c e t)

  module _ (k : ℕ) where
    abbrev Q : Generation
    Q = generation R P k

    -- what is tied in a later generation
    pub tied_of_phase : (n m : ℕ) (c e : Cell) → AreTied R Q n c m e → AreTied R P (n + k) c (m + k) e
    tied_of_phase n m c e t =
        rewritten R P (n + k) (n + k) (m + k) (m + k) (plus c (opposite origin)) c (plus e (opposite origin)) e
        (omega arith) (omega arith) (no_move c) (no_move e)
        (tied_moved R P Q k origin
        (λ l. generation-add R P k l ∙ ap (generation R P) (let q : k + l ≡ l + k = omega arith in q)
        ∙ sym (moved-origin (generation R P (l + k))))
        (λ q f s. RecursBy-sooner R P p d r k q f s) n m c e t)

    abbrev far : ℕ
    far = suc k * p

    abbrev w : Cell
    w = multiple_of (suc k) d

    past : k ≤ far
    past = let one : 1 ≤ p = r.later in let long : suc k ≤ 0 + suc k * p = far_enough 0 (suc k) p one in omega arith

    abbrev s : ℕ
    s = far - k

    pub tied_to_phase : (n m : ℕ) (c e : Cell) → AreTied R P (n + k) c (m + k) e → AreTied R Q n c m e
    tied_to_phase n m c e t =
        let le : k ≤ far = past in
        before far w (RecursBy-later R P far w (RecursBy-times R P p d r (suc k) (omega arith)) k) n m c e
        (rewritten R Q ((n + k) + s) (n + far) ((m + k) + s) (m + far) (plus c (opposite (opposite w))) (plus c w)
        (plus e (opposite (opposite w))) (plus e w) (omega arith) (omega arith) (opposite_twice c w) (opposite_twice e w)
        (tied_moved R Q P s (opposite w)
        (λ l. sym (ap (λ H. translate_of H (opposite w))
        (generation-add R P k (l + s) ∙ ap (generation R P) (let q : k + (l + s) ≡ far + l = omega arith in q)
        ∙ sym (generation-add R P far l) ∙ ap (λ H. generation R H l) (generation-times R P p d r (suc k))
        ∙ generation-moved R P w l) ∙ moved_back (generation R P l) w))
        (λ q f u. RecursBy-later R P q f u k) (n + k) (m + k) c e t))
