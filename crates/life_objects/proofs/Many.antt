-- The sets of a list evolve alone for as long as any two of them stay apart.
use Rattle.std.proofs.Common.{◌≡◌, ℕ, zero, suc, ◌+◌, ◌<◌, ◌≤◌, List, [], ◌∷◌, map, sym, refl, ap, ◌∙◌, arith}
use Rattle.std.specs.List.{AllPairs}
use Rattle.life_model.specs.Rule.{Rule}
use Rattle.life_model.specs.Generation.{Generation}
use Rattle.life_model.specs.Evolution.{next, generation}
use Rattle.life_model.proofs.Recurrences.{generation-add}
use Rattle.life_objects.specs.Apart.{AreDisjoint, AreApart, AreApartFor, AreApartForEver}
use Rattle.life_objects.specs.Union.{generations, union, union_of}
use Rattle.life_objects.proofs.Alone.{next-union, next_disjoint, next-empty}
use Rattle.life_objects.proofs.Distances.{apart_from_union_of}
use Rattle.life_objects.proofs.Lists.{AllPairs-head, AllPairs-tail, AllPairs-weaker, AllPairs-map}
use Rattle.life_objects.proofs.Times.{disjoint_a_while, disjoint_ever}

module _ (R : Rule) where
  pub next-union_of : (Ps : List Generation) → AllPairs AreApart Ps → next R (union_of Ps) ≡ union_of (map (next R) Ps)
  next-union_of [] far = next-empty R
  next-union_of (P ∷ Ps) far =
      next-union R P (union_of Ps) (apart_from_union_of P Ps (AllPairs-head AreApart P Ps far))
      ∙ ap (union (next R P)) (next-union_of Ps (AllPairs-tail AreApart P Ps far))

  pub next_pairs_disjoint : (Ps : List Generation) → AllPairs AreApart Ps → AllPairs AreDisjoint (map (next R) Ps)
  next_pairs_disjoint Ps far =
      AllPairs-map AreDisjoint (next R) Ps
      (AllPairs-weaker AreApart (λ P Q. AreDisjoint (next R P) (next R Q)) (next_disjoint R) Ps far)

  pub generations-zero : (Ps : List Generation) → generations R Ps 0 ≡ Ps
  unfolding generation
  generations-zero [] = refl
  generations-zero (P ∷ Ps) = ap (λ r. P ∷ r) (generations-zero Ps)

  generations-suc : (Ps : List Generation) (n : ℕ) → map (next R) (generations R Ps n) ≡ generations R Ps (suc n)
  unfolding generation
  generations-suc [] n = refl
  generations-suc (P ∷ Ps) n = ap (λ r. next R (generation R P n) ∷ r) (generations-suc Ps n)

  pub generations-add : (Ps : List Generation) (m n : ℕ) →
      generations R (generations R Ps m) n ≡ generations R Ps (m + n)
  generations-add [] m n = refl
  generations-add (P ∷ Ps) m n = λ i. generation-add R P m n i ∷ generations-add Ps m n i

  pub generation-union_of : (n : ℕ) (Ps : List Generation) →
      ((m : ℕ) → m < n → AllPairs AreApart (generations R Ps m)) →
      generation R (union_of Ps) n ≡ union_of (generations R Ps n)
  unfolding generation
  generation-union_of zero Ps far = ap union_of (sym (generations-zero Ps))
  generation-union_of (suc n) Ps far =
      ap (next R) (generation-union_of n Ps (λ m h. far m (omega arith)))
      ∙ next-union_of (generations R Ps n) (far n (omega arith))
      ∙ ap union_of (generations-suc Ps n)

  pub pairs_then : (S : Generation → Generation → Type 0) (n : ℕ) (Ps : List Generation) →
      AllPairs (λ P Q. S (generation R P n) (generation R Q n)) Ps → AllPairs S (generations R Ps n)
  pairs_then S n Ps all = AllPairs-map S (λ P. generation R P n) Ps all

  pub list_a_while : (b n : ℕ) (Ps : List Generation) → AllPairs (AreApartFor R b) Ps → n ≤ b + 1 →
      generation R (union_of Ps) n ≡ union_of (generations R Ps n)
  list_a_while b n Ps far h =
      generation-union_of n Ps (λ m k.
      let within : m ≤ b = omega arith in
      pairs_then AreApart m Ps (AllPairs-weaker (AreApartFor R b)
      (λ P Q. AreApart (generation R P m) (generation R Q m)) (λ P Q a. a m within) Ps far))

  pub list_disjoint_a_while : (b n : ℕ) (Ps : List Generation) → AllPairs (AreApartFor R b) Ps → n ≤ b + 1 →
      AllPairs AreDisjoint (generations R Ps n)
  list_disjoint_a_while b n Ps far h =
      pairs_then AreDisjoint n Ps
      (AllPairs-weaker (AreApartFor R b) (λ P Q. AreDisjoint (generation R P n) (generation R Q n))
      (λ P Q a. disjoint_a_while R b n P Q a h) Ps far)

  pub generations_apart : (n : ℕ) (Ps : List Generation) → AllPairs (AreApartForEver R) Ps →
      AllPairs AreApart (generations R Ps n)
  generations_apart n Ps far =
      pairs_then AreApart n Ps (AllPairs-weaker (AreApartForEver R)
      (λ P Q. AreApart (generation R P n) (generation R Q n)) (λ P Q a. a n) Ps far)

  pub list_ever : (n : ℕ) (Ps : List Generation) → AllPairs (AreApartForEver R) Ps →
      generation R (union_of Ps) n ≡ union_of (generations R Ps n)
  list_ever n Ps far = generation-union_of n Ps (λ m h. generations_apart m Ps far)

  pub list_disjoint_ever : (n : ℕ) (Ps : List Generation) → AllPairs (AreApartForEver R) Ps →
      AllPairs AreDisjoint (generations R Ps n)
  list_disjoint_ever n Ps far =
      pairs_then AreDisjoint n Ps
      (AllPairs-weaker (AreApartForEver R) (λ P Q. AreDisjoint (generation R P n) (generation R Q n))
      (λ P Q a. disjoint_ever R n P Q a) Ps far)
