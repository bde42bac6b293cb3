-- What a relation says about a sum.
use Rattle.std.proofs.Common.{◌≡◌, ℕ, zero, suc, ◌+◌, ◌-◌, ◌<◌, ◌≤◌, ◌⊎◌, List, [], ◌∷◌, length, inl, inr, sym, ap, ◌∙◌, arith}
use Rattle.std.proofs.lemmas.Bool.{cases_lt}
use Rattle.life_growth.specs.Meeting.Sums.{Step, and_then}
use Rattle.life_growth.specs.Relations.Relations.{IsRelation, IsSumOf, left_out, number_at, rest_of}
use Rattle.life_growth.proofs.RelationsLemmas.Numbers.{others_sum, sum_by, sum_by-add, sum_by-numbers, sum_by-within, whole_sum}

abbrev Covers : List Step → (ℕ → ℕ) → (ℕ → ℕ) → Type 0
Covers us p f = (i : ℕ) → i < length us → p i ≤ f i

both_places : (u : Step) (us : List Step) (p f : ℕ → ℕ) → p 0 ≤ f 0 → Covers us (λ i. p (suc i)) (λ i. f (suc i)) →
    Covers (u ∷ us) p f
both_places u us p f first rest zero h = first
both_places u us p f first rest (suc i) h = rest i (omega arith)

-- each number is enough, or some one is not
enough_or_not : (us : List Step) (p f : ℕ → ℕ) → Covers us p f ⊎ ((i : ℕ) × (f i < p i))
enough_or_not [] p f = inl (λ i h. absurd (omega arith))
enough_or_not (u ∷ us) p f =
    elim (cases_lt (f 0) (p 0)) [
      | inl few ↦ inr (0, few)
      | inr enough ↦ elim (enough_or_not us (λ i. p (suc i)) (λ i. f (suc i))) [
        | inl rest ↦ inl (both_places u us p f (omega arith) rest)
        | inr lack ↦ inr (suc lack.0, lack.1)
      ]
    ]

-- ---- how much there is in the places of a relation

abbrev counting : ℕ → ℕ → ℕ
counting zero k = 0
counting (suc a) k = k

abbrev weight : List Step → (ℕ → ℕ) → (ℕ → ℕ) → ℕ
weight [] p f = 0
weight (u ∷ us) p f = counting (p 0) (f 0) + weight us (λ i. p (suc i)) (λ i. f (suc i))

abbrev total : List Step → (ℕ → ℕ) → ℕ
total [] p = 0
total (u ∷ us) p = p 0 + total us (λ i. p (suc i))

one_place : (a b n : ℕ) → (1 ≤ a → n ≡ 0) → a ≤ b → counting a (n + (b - a)) + a ≤ counting a b
one_place zero b n none h = omega arith
one_place (suc a) b n none h = let z : n ≡ 0 = none (omega arith) in omega arith

less_weight : (us : List Step) (p n f : ℕ → ℕ) → ((i : ℕ) → 1 ≤ p i → n i ≡ 0) → Covers us p f →
    weight us p (λ i. n i + (f i - p i)) + total us p ≤ weight us p f
less_weight [] p n f apart covers = omega arith
less_weight (u ∷ us) p n f apart covers =
    let here = one_place (p 0) (f 0) (n 0) (apart 0) (covers 0 (omega arith)) in
    let rest = less_weight us (λ i. p (suc i)) (λ i. n (suc i)) (λ i. f (suc i)) (λ i. apart (suc i))
    (λ i h. covers (suc i) (omega arith)) in
    omega arith

some_total : (us : List Step) (p : ℕ → ℕ) (i : ℕ) → i < length us → 1 ≤ p i → 1 ≤ total us p
some_total [] p i h some = absurd (omega arith)
some_total (u ∷ us) p zero h some = omega arith
some_total (u ∷ us) p (suc i) h some =
    let rest = some_total us (λ k. p (suc k)) i (omega arith) some in
    omega arith

-- ---- the law

module _ (us : List Step) (ups downs : List ℕ) (c : Step) (relation : IsRelation us ups downs) where
  abbrev p : ℕ → ℕ
  p = number_at ups

  abbrev n : ℕ → ℕ
  n = number_at downs

  -- less of what the relation has on one side, and more of what it has on the other
  abbrev turned : (ℕ → ℕ) → ℕ → ℕ
  turned f i = n i + (f i - p i)

  turned_sum : (f : ℕ → ℕ) → Covers us p f → sum_by us (turned f) ≡ sum_by us f
  turned_sum f covers =
      sum_by-add us n (λ i. f i - p i)
      ∙ ap (λ s. and_then s (sum_by us (λ i. f i - p i)))
      (sum_by-numbers us downs ∙ sym relation.same ∙ sym (sum_by-numbers us ups))
      ∙ sym (sum_by-add us p (λ i. f i - p i))
      ∙ sum_by-within us (λ i. p i + (f i - p i)) f
      (λ i h. let enough : p i ≤ f i = covers i h in (let e : p i + (f i - p i) ≡ f i = omega arith in e))

  abbrev Few : Type 0
  Few = (i : ℕ) × (often : ℕ) × (often < p i) × IsSumOf (left_out us i) (rest_of us i c often)

  few_by : (k : ℕ) (f : ℕ → ℕ) → weight us p f ≤ k → sum_by us f ≡ c → Few
  few_by zero f light e =
      elim (enough_or_not us p f) [
        | inl covers ↦
            let less = less_weight us p n f relation.apart covers in
            let some = some_total us p relation.place relation.within relation.some in
            absurd (omega arith)
        | inr lack ↦ (lack.0, f lack.0, lack.1, others_sum us f lack.0 c e)
      ]
  few_by (suc k) f light e =
      elim (enough_or_not us p f) [
        | inl covers ↦
            let less = less_weight us p n f relation.apart covers in
            let some = some_total us p relation.place relation.within relation.some in
            few_by k (turned f) (omega arith) (turned_sum f covers ∙ e)
        | inr lack ↦ (lack.0, f lack.0, lack.1, others_sum us f lack.0 c e)
      ]

  pub few_numbers : IsSumOf us c → Few
  few_numbers sum =
      few_by (weight us p (number_at sum.0)) (number_at sum.0) (omega arith) (sum_by-numbers us sum.0 ∙ sum.1)

  pub from_few : Few → IsSumOf us c
  from_few few = whole_sum us few.0 few.1 c few.3
