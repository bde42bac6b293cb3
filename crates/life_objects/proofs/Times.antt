-- Two sets evolve alone for as long as they stay apart.
use Rattle.std.proofs.Common.{◌≡◌, ℕ, zero, suc, ◌+◌, ◌≤◌, refl, ap, ◌∙◌, arith}
use Rattle.life_model.specs.Rule.{Rule}
use Rattle.life_model.specs.Generation.{Generation, empty}
use Rattle.life_model.specs.Evolution.{next, generation}
use Rattle.life_objects.specs.Apart.{AreDisjoint, AreApart, AreApartBefore, AreApartFor, AreApartForEver}
use Rattle.life_objects.specs.Union.{union}
use Rattle.life_objects.proofs.Alone.{next-union, next_disjoint, next-empty}
use Rattle.life_objects.proofs.Distances.{AreApart-swap, disjoint_from_apart}

module _ (R : Rule) where
  pub generation-union : (n : ℕ) (P Q : Generation) → AreApartBefore R n P Q →
      generation R (union P Q) n ≡ union (generation R P n) (generation R Q n)
  unfolding generation
  generation-union zero P Q far = refl
  generation-union (suc n) P Q far =
      ap (next R) (generation-union n P Q (λ m h. far m (omega arith)))
      ∙ next-union R (generation R P n) (generation R Q n) (far n (omega arith))

  pub disjoint_after : (n : ℕ) (P Q : Generation) → AreApart (generation R P n) (generation R Q n) →
      AreDisjoint (generation R P (suc n)) (generation R Q (suc n))
  unfolding generation
  disjoint_after n P Q far = next_disjoint R (generation R P n) (generation R Q n) far

  pub generation-empty : (n : ℕ) → generation R empty n ≡ empty
  unfolding generation
  generation-empty zero = refl
  generation-empty (suc n) = ap (next R) (generation-empty n) ∙ next-empty R

  pub before_from_while : (b n : ℕ) (P Q : Generation) → AreApartFor R b P Q → n ≤ b + 1 → AreApartBefore R n P Q
  before_from_while b n P Q far h m k = far m (omega arith)

  pub disjoint_a_while : (b n : ℕ) (P Q : Generation) → AreApartFor R b P Q → n ≤ b + 1 →
      AreDisjoint (generation R P n) (generation R Q n)
  disjoint_a_while b zero P Q far h = disjoint_from_apart (generation R P 0) (generation R Q 0) (far 0 (omega arith))
  disjoint_a_while b (suc n) P Q far h = disjoint_after n P Q (far n (omega arith))

  pub AreApartForEver-swap : (P Q : Generation) → AreApartForEver R P Q → AreApartForEver R Q P
  AreApartForEver-swap P Q far n = AreApart-swap (generation R P n) (generation R Q n) (far n)

  pub generation-union_ever : (n : ℕ) (P Q : Generation) → AreApartForEver R P Q →
      generation R (union P Q) n ≡ union (generation R P n) (generation R Q n)
  generation-union_ever n P Q far = generation-union n P Q (λ m h. far m)

  pub disjoint_ever : (n : ℕ) (P Q : Generation) → AreApartForEver R P Q →
      AreDisjoint (generation R P n) (generation R Q n)
  disjoint_ever n P Q far = disjoint_from_apart (generation R P n) (generation R Q n) (far n)
