-- How a set splits is determined by its next generation.
use Rattle.std.proofs.Common.{◌≡◌, ℕ, zero, suc, ◌+◌, sym, refl, ap, subst, ◌∙◌, arith}
use Rattle.life_model.specs.Rule.{Rule}
use Rattle.life_model.specs.Generation.{Generation}
use Rattle.life_model.specs.Evolution.{generation, next}
use Rattle.life_model.proofs.Recurrences.{generation-add}
use Rattle.life_objects.specs.Apart.{AreApart, AreApartFor}
use Rattle.life_objects.specs.Piece.{IsSplit}
use Rattle.life_objects.specs.Union.{union}
use Rattle.life_objects.proofs.Alone.{next-union}

module _ (R : Rule) where
  pub from_next : (P : Generation) (n : ℕ) → generation R (next R P) n ≡ generation R P (suc n)
  unfolding generation
  from_next P n = generation-add R P 1 n ∙ ap (generation R P) (let e : 1 + n ≡ suc n = omega arith in e)

  pub at_first : (P : Generation) → generation R P 0 ≡ P
  unfolding generation
  at_first P = refl

  pub apart_now : (b : ℕ) (A B : Generation) → AreApartFor R b A B → AreApart A B
  unfolding generation
  apart_now b A B far = far 0 (omega arith)

  pub apart_next : (b : ℕ) (A B : Generation) → AreApartFor R (suc b) A B → AreApartFor R b (next R A) (next R B)
  apart_next b A B far n h =
      subst (AreApart (generation R (next R A) n)) (sym (from_next B n))
      (subst (λ H. AreApart H (generation R B (suc n))) (sym (from_next A n)) (far (suc n) (omega arith)))

  pub apart_before : (b : ℕ) (A B : Generation) → AreApart A B → AreApartFor R b (next R A) (next R B) →
      AreApartFor R (suc b) A B
  apart_before b A B now later zero h =
      subst (AreApart (generation R A 0)) (sym (at_first B)) (subst (λ H. AreApart H B) (sym (at_first A)) now)
  apart_before b A B now later (suc n) h =
      subst (AreApart (generation R A (suc n))) (from_next B n)
      (subst (λ H. AreApart H (generation R (next R B) n)) (from_next A n) (later n (omega arith)))

  module _ (b : ℕ) (G A B : Generation) where
    pub split_next : IsSplit R (suc b) G A B →
        (union A B ≡ G) × AreApart A B × IsSplit R b (next R G) (next R A) (next R B)
    split_next split =
        let now = apart_now (suc b) A B split.apart in (
          split.together,
          now,
          record {
            together = sym (next-union R A B now) ∙ ap (next R) split.together;
            apart = apart_next b A B split.apart;
          },
        )

    pub split_before : (union A B ≡ G) × AreApart A B × IsSplit R b (next R G) (next R A) (next R B) → IsSplit R (suc b) G A B
    split_before q = record { together = q.0; apart = apart_before b A B q.1 q.2.apart }
