-- Orbits that are looked at one by one, and their sets.
use Rattle.std.proofs.Common.{◌≡◌, ℕ, ◌+◌, ◌<◌, List, get_or, length, take, inl, inr, sym, ap, subst, ◌∙◌, arith}
use Rattle.std.specs.List.{All, AllPairs}
use Rattle.std.proofs.lemmas.Bool.{cases_lt}
use Rattle.std.proofs.lemmas.List.{get_or-map, get_or-take, get_or_read, length-map, length-take-le}
use Rattle.std.proofs.lemmas.List.Elements.{All-map}
use Rattle.life_model.specs.Generation.{Generation}
use Rattle.life_model.specs.Rule.{Rule}
use Rattle.life_objects.specs.Apart.{AreApartForEver}
use Rattle.life_objects.proofs.Lists.{AllPairs-map}
use Rattle.life_objects.proofs.Times.{AreApartForEver-swap}
use Rattle.life_orbit.specs.Course.{Course}
use Rattle.life_apart.specs.Sets.{sets_of}

length-sets : (os : List Course) → length (sets_of os) ≡ length os
length-sets os = length-map os (λ o. o.set)

-- each set, if each orbit is looked at
pub of_each : (P : Generation → Type 0) (os : List Course) →
    ((k : ℕ) (e : Course) → k < length os → P (get_or os k e).set) → All P (sets_of os)
of_each P os each = All-map P (λ o. o.set) os (λ k e h. each k e h)

-- each orbit, if each set is known
pub at_each : (P : Generation → Type 0) (os : List Course) → All P (sets_of os) → (k : ℕ) (e : Course) → k < length os →
    P (get_or os k e).set
at_each P os all k e h =
    subst P (get_or-map (λ o. o.set) os k e e.set h) (all k e.set (omega (arith, length-sets os)))

module _ (R : Rule) (os : List Course) where
  -- any two of the first n stay apart for ever
  abbrev pub ArePairsBefore : ℕ → Type 0
  ArePairsBefore n = (i j : ℕ) (e : Course) → i < j → j < n → AreApartForEver R (get_or os i e).set (get_or os j e).set

  -- one more orbit, which stays apart from those before it
  pub one_more : (n : ℕ) (o : Course) → n < length os → o ≡ get_or os n o → ArePairsBefore n →
      All (AreApartForEver R o.set) (sets_of (take n os)) → ArePairsBefore (n + 1)
  one_more n o there is so_far apart i j e before h =
      elim (cases_lt j n) [
        | inl early ↦ so_far i j e before early
        | inr late ↦
            let last : n ≡ j = omega arith in
            let count : length (take n os) ≡ n = length-take-le n os (omega arith) in
            let far = at_each (AreApartForEver R o.set) (take n os) apart i e (omega arith) in
            AreApartForEver-swap R (get_or os j e).set (get_or os i e).set
            (subst (λ c. AreApartForEver R c.set (get_or os i e).set)
            (get_or_read os n o there is e ∙ ap (λ k. get_or os k e) last)
            (subst (λ c. AreApartForEver R o.set c.set) (get_or-take n os i e (omega arith)) far))
      ]

  pub all_pairs : (n : ℕ) → length os ≡ n → ArePairsBefore n → AllPairs (AreApartForEver R) (sets_of os)
  all_pairs n count pairs =
      AllPairs-map (AreApartForEver R) (λ o. o.set) os (λ i j e before h. pairs i j e before (omega arith))

  -- any two stay apart for ever, so each does from those before it
  pub before_one : (n : ℕ) (o : Course) → n < length os → o ≡ get_or os n o →
      AllPairs (AreApartForEver R) (sets_of os) → All (AreApartForEver R o.set) (sets_of (take n os))
  before_one n o there is pairs = of_each (AreApartForEver R o.set) (take n os) (λ k e h.
      let count : length (take n os) ≡ n = length-take-le n os (omega arith) in
      let low : k < length os = omega arith in
      let far = pairs k n e.set (omega arith) (omega (arith, length-sets os)) in
      AreApartForEver-swap R (get_or (take n os) k e).set o.set
      (subst (λ c. AreApartForEver R c.set o.set) (sym (get_or-take n os k e (omega arith)))
      (subst (λ c. AreApartForEver R (get_or os k e).set c.set) (sym (get_or_read os n o there is e))
      (subst (λ P. AreApartForEver R P (get_or os n e).set) (get_or-map (λ c. c.set) os k e e.set low)
      (subst (AreApartForEver R (get_or (sets_of os) k e.set)) (get_or-map (λ c. c.set) os n e e.set there) far)))))
