-- Where one set falls into two in two ways, of two sets each that keep apart, all four crossings evolve alone.
use Rattle.std.proofs.Common.{◌≡◌, ℕ, zero, suc, Bool, true, false, ◌&&◌, ◌||◌, sym, refl, ap, ◌∙◌}
use Rattle.std.proofs.Math.Bool.{and_comm}
use Rattle.life_model.specs.Cell.{Cell}
use Rattle.life_model.specs.Rule.{Rule}
use Rattle.life_model.specs.Generation.{Generation, contains, keep}
use Rattle.life_model.specs.Evolution.{next, generation}
use Rattle.life_model.proofs.Generations.{contains-keep, same_members}
use Rattle.life_objects.specs.Apart.{AreApart, AreApartForEver}
use Rattle.life_objects.specs.Union.{union}
use Rattle.life_objects.proofs.Alone.{next-union}
use Rattle.life_objects.proofs.Unions.{contains-union, in_first, in_second}

-- the cells that two sets share
pub meet : Generation → Generation → Generation
meet P Q = keep P (contains Q)

contains-meet : (P Q : Generation) (c : Cell) → contains (meet P Q) c ≡ (contains P c && contains Q c)
unfolding meet
contains-meet P Q c = contains-keep P (contains Q) c

-- P falls into A and B, and its rest into C and D; Q falls into A and C, and its rest into B and D
pub record AreCrossings (A B C D P P_rest Q Q_rest : Generation) : Type 0 where
  pub first : P ≡ union A B
  pub first_rest : P_rest ≡ union C D
  pub second : Q ≡ union A C
  pub second_rest : Q_rest ≡ union B D

split : (p q r s : Bool) → (p || q) ≡ (r || s) → p ≡ ((p && r) || (p && s))
split true q r s h = h
split false q r s h = refl

split_other : (p q r s : Bool) → (p || q) ≡ (r || s) → q ≡ ((q && r) || (q && s))
split_other true true r s h = h
split_other true false r s h = refl
split_other false true r s h = h
split_other false false r s h = refl

module _ (P P_rest Q Q_rest : Generation) (same : union P P_rest ≡ union Q Q_rest) where
  at_cell : (c : Cell) → (contains P c || contains P_rest c) ≡ (contains Q c || contains Q_rest c)
  at_cell c = sym (contains-union P P_rest c) ∙ ap (λ H. contains H c) same ∙ contains-union Q Q_rest c

  pub crossings_now : AreCrossings (meet P Q) (meet P Q_rest) (meet P_rest Q) (meet P_rest Q_rest) P P_rest Q Q_rest
  crossings_now = record {
    first = same_members _ _ (λ c.
        split _ _ _ _ (at_cell c) ∙ (λ i. sym (contains-meet P Q c) i || sym (contains-meet P Q_rest c) i)
        ∙ sym (contains-union (meet P Q) (meet P Q_rest) c));
    first_rest = same_members _ _ (λ c.
        split_other _ _ _ _ (at_cell c)
        ∙ (λ i. sym (contains-meet P_rest Q c) i || sym (contains-meet P_rest Q_rest c) i)
        ∙ sym (contains-union (meet P_rest Q) (meet P_rest Q_rest) c));
    second = same_members _ _ (λ c.
        split _ _ _ _ (sym (at_cell c))
        ∙ (λ i. and_comm (contains Q c) (contains P c) i || and_comm (contains Q c) (contains P_rest c) i)
        ∙ (λ i. sym (contains-meet P Q c) i || sym (contains-meet P_rest Q c) i)
        ∙ sym (contains-union (meet P Q) (meet P_rest Q) c));
    second_rest = same_members _ _ (λ c.
        split_other _ _ _ _ (sym (at_cell c))
        ∙ (λ i. and_comm (contains Q_rest c) (contains P c) i || and_comm (contains Q_rest c) (contains P_rest c) i)
        ∙ (λ i. sym (contains-meet P Q_rest c) i || sym (contains-meet P_rest Q_rest c) i)
        ∙ sym (contains-union (meet P Q_rest) (meet P_rest Q_rest) c));
  }

there : (H K : Generation) (c : Cell) → H ≡ K → contains K c ≡ true → contains H c ≡ true
there H K c e h = ap (λ L. contains L c) e ∙ h

-- parts of sets that are apart are apart
module _ (A B C D P P_rest Q Q_rest : Generation) (cross : AreCrossings A B C D P P_rest Q Q_rest) where
  pub in_second_rest : (c : Cell) → contains B c ≡ true → contains Q_rest c ≡ true
  in_second_rest c h = there Q_rest (union B D) c cross.second_rest (in_first B D c h)

  module _ (p_far : AreApart P P_rest) where
    pub first_apart_second : AreApart A C
    first_apart_second c d h k =
        p_far c d (there P (union A B) c cross.first (in_first A B c h))
        (there P_rest (union C D) d cross.first_rest (in_first C D d k))

    rests_apart_second : AreApart B D
    rests_apart_second c d h k =
        p_far c d (there P (union A B) c cross.first (in_second A B c h))
        (there P_rest (union C D) d cross.first_rest (in_second C D d k))

  module _ (q_far : AreApart Q Q_rest) where
    pub second_apart_first : AreApart A B
    second_apart_first c d h k =
        q_far c d (there Q (union A C) c cross.second (in_first A C c h)) (in_second_rest d k)

    rests_apart_first : AreApart C D
    rests_apart_first c d h k =
        q_far c d (there Q (union A C) c cross.second (in_second A C c h))
        (there Q_rest (union B D) d cross.second_rest (in_second B D d k))

  crossings_next : (R : Rule) → AreApart P P_rest → AreApart Q Q_rest →
      AreCrossings (next R A) (next R B) (next R C) (next R D) (next R P) (next R P_rest) (next R Q) (next R Q_rest)
  crossings_next R p_far q_far = record {
    first = ap (next R) cross.first ∙ next-union R A B (second_apart_first q_far);
    first_rest = ap (next R) cross.first_rest ∙ next-union R C D (rests_apart_first q_far);
    second = ap (next R) cross.second ∙ next-union R A C (first_apart_second p_far);
    second_rest = ap (next R) cross.second_rest ∙ next-union R B D (rests_apart_second p_far);
  }

-- generations n of these sets are such crossings
abbrev pub AreCrossingsAt : Rule → ℕ → (A B C D P P_rest Q Q_rest : Generation) → Type 0
AreCrossingsAt R n A B C D P P_rest Q Q_rest =
    AreCrossings (generation R A n) (generation R B n) (generation R C n) (generation R D n)
    (generation R P n) (generation R P_rest n) (generation R Q n) (generation R Q_rest n)

module _ (R : Rule) (P P_rest Q Q_rest : Generation)
    (p_far : AreApartForEver R P P_rest) (q_far : AreApartForEver R Q Q_rest)
    (A B C D : Generation) (cross : AreCrossings A B C D P P_rest Q Q_rest) where
  pub crossings_later : (n : ℕ) → AreCrossingsAt R n A B C D P P_rest Q Q_rest
  unfolding generation
  crossings_later zero = cross
  crossings_later (suc n) =
      crossings_next (generation R A n) (generation R B n) (generation R C n) (generation R D n)
      (generation R P n) (generation R P_rest n) (generation R Q n) (generation R Q_rest n)
      (crossings_later n) R (p_far n) (q_far n)
