-- Moves keep what is apart and what is in one piece, so one period decides for all time.
use Rattle.std.proofs.Common.{◌≡◌, ℕ, zero, suc, ◌+◌, ◌*◌, ◌/◌, ◌%◌, ◌<◌, ◌≤◌, ◌||◌, sym, ap, subst, ◌∙◌, mod-lt, true}
use Rattle.std.proofs.Common.{div-add-mod', mul-le-mul_left, arith}
use Rattle.std.proofs.lemmas.Int.{ints}
use Rattle.life_model.specs.Cell.{Cell, plus, opposite}
use Rattle.life_model.specs.Rule.{Rule}
use Rattle.life_model.specs.Generation.{Generation, contains, empty}
use Rattle.life_model.specs.Evolution.{generation}
use Rattle.life_model.specs.Symmetry.{translate_of}
use Rattle.life_model.specs.Recurrence.{RecursBy}
use Rattle.life_model.proofs.Cells.{pair}
use Rattle.life_model.proofs.Generations.{same_members}
use Rattle.life_model.proofs.Moves.{moved-moved, moved-origin, moved-empty}
use Rattle.life_model.proofs.Recurrences.{generation-add, generation-zero}
use Rattle.life_model.proofs.Symmetries.{generation-moved, contains-moved}
use Rattle.life_objects.specs.Apart.{AreNear, AreApart, AreApartBefore, AreApartForEver}
use Rattle.life_objects.specs.Piece.{IsUndivided, IsOnePiece}
use Rattle.life_objects.specs.Drift.{multiple_of}
use Rattle.life_objects.specs.Union.{union}
use Rattle.life_objects.proofs.Recurring.{moved_back}
use Rattle.life_objects.proofs.Unions.{contains-union}

pub near_moved : (c d e : Cell) → AreNear c d → AreNear (plus c e) (plus d e)
near_moved c d e h = record {
  left = omega (arith, ints);
  right = omega (arith, ints);
  above = omega (arith, ints);
  below = omega (arith, ints);
}

-- the cell that has moved to c
pub in_unmoved : (P : Generation) (e c : Cell) → contains (translate_of P e) c ≡ true → contains P (plus c (opposite e)) ≡ true
in_unmoved P e c h = sym (contains-moved P e c) ∙ h

pub AreApart-moved : (P Q : Generation) (e : Cell) → AreApart P Q → AreApart (translate_of P e) (translate_of Q e)
AreApart-moved P Q e far c d h k near =
    far (plus c (opposite e)) (plus d (opposite e)) (in_unmoved P e c h) (in_unmoved Q e d k)
    (near_moved c d (opposite e) near)

pub union-moved : (A B : Generation) (e : Cell) → translate_of (union A B) e ≡ union (translate_of A e) (translate_of B e)
union-moved A B e = same_members _ _ (λ c.
    contains-moved (union A B) e c ∙ contains-union A B (plus c (opposite e))
    ∙ (λ i. sym (contains-moved A e c) i || sym (contains-moved B e c) i)
    ∙ sym (contains-union (translate_of A e) (translate_of B e) c))

whole_part : (m p : ℕ) → m ≡ (m / p) * p + m % p
whole_part m p = let e = div-add-mod' m p in omega arith

one_product : (k p : ℕ) → 1 ≤ k → 1 ≤ p → 1 ≤ k * p
one_product k p h l = let more : k * 1 ≤ k * p = mul-le-mul_left k l in omega arith

module _ (R : Rule) where
  pub apart_moved_at : (n : ℕ) (A B : Generation) (e : Cell) → AreApart (generation R A n) (generation R B n) →
      AreApart (generation R (translate_of A e) n) (generation R (translate_of B e) n)
  apart_moved_at n A B e far =
      subst (λ H. AreApart H (generation R (translate_of B e) n)) (sym (generation-moved R A e n))
      (subst (AreApart (translate_of (generation R A n) e)) (sym (generation-moved R B e n))
      (AreApart-moved (generation R A n) (generation R B n) e far))

  gone_unmoved : (b : ℕ) (A : Generation) (e : Cell) → generation R (translate_of A e) b ≡ empty → generation R A b ≡ empty
  gone_unmoved b A e gone =
      sym (moved_back (generation R A b) e) ∙ ap (λ H. translate_of H (opposite e)) (sym (generation-moved R A e b) ∙ gone)
      ∙ moved-empty (opposite e)

  pub IsUndivided-moved : (b : ℕ) (P : Generation) (e : Cell) → IsUndivided R b P → IsUndivided R b (translate_of P e)
  IsUndivided-moved b P e whole A B split h k =
      let back = opposite e in
      whole (translate_of A back) (translate_of B back)
      (record {
        together = sym (union-moved A B back) ∙ ap (λ H. translate_of H back) split.together ∙ moved_back P e;
        apart = λ n l. apart_moved_at n A B back (split.apart n l);
      })
      (λ gone. h (gone_unmoved b A back gone)) (λ gone. k (gone_unmoved b B back gone))

  -- ---- what comes again

  module _ (P : Generation) (p : ℕ) (d : Cell) (r : RecursBy R P p d) where
    pub generation-times : (k : ℕ) → generation R P (k * p) ≡ translate_of P (multiple_of k d)
    generation-times zero =
        ap (generation R P) (let e : 0 * p ≡ 0 = omega arith in e) ∙ generation-zero R P ∙ sym (moved-origin P)
    generation-times (suc k) =
        ap (generation R P) (let e : suc k * p ≡ k * p + p = omega arith in e) ∙ sym (generation-add R P (k * p) p)
        ∙ ap (λ H. generation R H p) (generation-times k) ∙ generation-moved R P (multiple_of k d) p
        ∙ ap (λ H. translate_of H (multiple_of k d)) r.again ∙ moved-moved P d (multiple_of k d)
        ∙ ap (translate_of P) (let e : plus d (multiple_of k d) ≡ plus (multiple_of k d) d = pair (omega (arith, ints))
        (omega (arith, ints)) in e)

    -- k * p generations later
    pub rounds_later : (k m : ℕ) → generation R P (k * p + m) ≡ translate_of (generation R P m) (multiple_of k d)
    rounds_later k m =
        sym (generation-add R P (k * p) m) ∙ ap (λ H. generation R H m) (generation-times k)
        ∙ generation-moved R P (multiple_of k d) m

    pub RecursBy-times : (k : ℕ) → 1 ≤ k → RecursBy R P (k * p) (multiple_of k d)
    RecursBy-times k h = record {
      later = let one : 1 ≤ p = r.later in one_product k p h one;
      again =
          generation-times k;
    }

    -- each generation is one of the first p, moved
    pub generation-wrapped : (m : ℕ) → generation R P m ≡ translate_of (generation R P (m % p)) (multiple_of (m / p) d)
    generation-wrapped m =
        ap (generation R P) (whole_part m p) ∙ sym (generation-add R P ((m / p) * p) (m % p))
        ∙ ap (λ H. generation R H (m % p)) (generation-times (m / p)) ∙ generation-moved R P (multiple_of (m / p) d) (m % p)

    pub one_piece_by_period : (b : ℕ) → ((m : ℕ) → m < p → IsUndivided R b (generation R P m)) → IsOnePiece R b P
    one_piece_by_period b whole n =
        subst (IsUndivided R b) (sym (generation-wrapped n))
        (IsUndivided-moved b (generation R P (n % p)) (multiple_of (n / p) d) (whole (n % p) (mod-lt n r.later)))

  pub apart_by_period : (n : ℕ) (d : Cell) (P Q : Generation) → RecursBy R P n d → RecursBy R Q n d →
      AreApartBefore R n P Q → AreApartForEver R P Q
  apart_by_period n d P Q r s far m =
      let e = multiple_of (m / n) d in
      subst (λ H. AreApart H (generation R Q m)) (sym (generation-wrapped P n d r m))
      (subst (AreApart (translate_of (generation R P (m % n)) e)) (sym (generation-wrapped Q n d s m))
      (AreApart-moved (generation R P (m % n)) (generation R Q (m % n)) e (far (m % n) (mod-lt m r.later))))
