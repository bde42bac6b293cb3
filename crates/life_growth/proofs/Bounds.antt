-- The populations of what falls apart have a bound.
use Rattle.std.proofs.Common.{◌≡◌, ℕ, zero, suc, ◌+◌, ◌-◌, ◌%◌, ◌/◌, ◌<◌, ◌≤◌, List, [], ◌∷◌, inl, inr, ap, subst, ◌∙◌, mod-lt, arith}
use Rattle.std.specs.List.{All, AllPairs}
use Rattle.std.proofs.lemmas.Bool.{cases_lt}
use Rattle.std.proofs.lemmas.List.Elements.{All-head, All-tail, All-weaker}
use Rattle.life_model.specs.Cell.{Cell}
use Rattle.life_model.specs.Rule.{Rule}
use Rattle.life_model.specs.Generation.{Generation, size, empty}
use Rattle.life_model.specs.Evolution.{generation}
use Rattle.life_model.specs.Recurrence.{RecursBy}
use Rattle.life_model.proofs.Generations.{size-empty}
use Rattle.life_model.proofs.Recurrences.{generation-add}
use Rattle.life_model.proofs.Lists.{size-moved}
use Rattle.life_objects.specs.Apart.{AreApartForEver}
use Rattle.life_objects.specs.Ash.{IsAsh, IsObject}
use Rattle.life_objects.specs.Drift.{multiple_of}
use Rattle.life_objects.specs.Union.{union, union_of}
use Rattle.life_objects.proofs.Lists.{AllPairs-head, AllPairs-tail}
use Rattle.life_objects.proofs.Moving.{generation-wrapped}
use Rattle.life_objects.proofs.OneList.{apart_from_list}
use Rattle.life_objects.proofs.Times.{disjoint_ever, generation-empty, generation-union_ever}
use Rattle.life_growth.specs.Engine.{FallsApart}
use Rattle.life_growth.specs.Population.{HasBound, HasNoBound}
use Rattle.life_growth.proofs.Parts.{IsPart}
use Rattle.life_growth.proofs.Sizes.{size-union}

module _ (R : Rule) where
  -- how many cells the generations before the n-th have, added up
  total : Generation → ℕ → ℕ
  total P zero = 0
  total P (suc n) = total P n + size (generation R P n)

  total_covers : (P : Generation) (n m : ℕ) → m < n → size (generation R P m) ≤ total P n
  unfolding total
  total_covers P zero m h = absurd (omega arith)
  total_covers P (suc n) m h =
      elim (cases_lt m n) [
        | inl before ↦ let le = total_covers P n m before in omega arith
        | inr last ↦
            let same : m ≡ n = omega arith in
            let e : size (generation R P m) ≡ size (generation R P n) = ap (λ k. size (generation R P k)) same in
            omega arith
      ]

  HasBound-recurs : (P : Generation) (p : ℕ) (d : Cell) → RecursBy R P p d → HasBound R P
  HasBound-recurs P p d r = (
    total P p,
    λ n.
        let same : size (generation R P n) ≡ size (generation R P (n % p)) =
        ap size (generation-wrapped R P p d r n) ∙ size-moved (generation R P (n % p)) (multiple_of (n / p) d) in
        let le = total_covers P p (n % p) (mod-lt n r.later) in
        omega arith,
  )

  pub size-union_ever : (P Q : Generation) (n : ℕ) → AreApartForEver R P Q →
      size (generation R (union P Q) n) ≡ size (generation R P n) + size (generation R Q n)
  size-union_ever P Q n far =
      ap size (generation-union_ever R n P Q far)
      ∙ size-union (generation R P n) (generation R Q n) (disjoint_ever R n P Q far)

  HasBound-union : (P Q : Generation) → AreApartForEver R P Q → HasBound R P → HasBound R Q → HasBound R (union P Q)
  HasBound-union P Q far p q = (
    p.0 + q.0,
    λ n.
        let e = size-union_ever P Q n far in
        let h = p.1 n in
        let k = q.1 n in
        omega arith,
  )

  HasBound-list : (Ps : List Generation) → AllPairs (AreApartForEver R) Ps → All (HasBound R) Ps → HasBound R (union_of Ps)
  HasBound-list [] far all = (
    0,
    λ n.
        let e : size (generation R empty n) ≡ 0 = ap size (generation-empty R n) ∙ size-empty in
        omega arith,
  )
  HasBound-list (P ∷ Ps) far all =
      let pairs = AllPairs-tail (AreApartForEver R) P Ps far in
      HasBound-union P (union_of Ps)
      (apart_from_list R P Ps (AllPairs-head (AreApartForEver R) P Ps far) pairs)
      (All-head (HasBound R) P Ps all)
      (HasBound-list Ps pairs (All-tail (HasBound R) P Ps all))

  pub HasBound-sooner : (P : Generation) (n : ℕ) → HasBound R (generation R P n) → HasBound R P
  HasBound-sooner P n bound = (
    total P n + bound.0,
    λ m. elim (cases_lt m n) [
      | inl before ↦ let le = total_covers P n m before in omega arith
      | inr not_before ↦
          let rest : ℕ = m - n in
          let z : n + rest ≡ m = omega arith in
          let e : size (generation R (generation R P n) rest) ≡ size (generation R P m) =
          ap size (generation-add R P n rest ∙ ap (generation R P) z) in
          let le = bound.1 rest in
          omega arith
    ],
  )

  HasBound-object : (b : ℕ) (P : Generation) → IsObject R b P → HasBound R P
  HasBound-object b P object = HasBound-recurs P object.recurs.steps object.recurs.by object.recurs.recurs

  pub HasBound-ash : (b : ℕ) (G : Generation) (parts : List Generation) → IsAsh R b G parts → HasBound R G
  HasBound-ash b G parts ash =
      subst (HasBound R) ash.together
      (HasBound-list parts ash.apart (All-weaker (IsObject R b) (HasBound R) (HasBound-object b) parts ash.objects))

  pub what_settles_has_a_bound : (b : ℕ) (P : Generation) → FallsApart R b P → HasBound R P
  what_settles_has_a_bound b P settles = HasBound-sooner P b (HasBound-ash b (generation R P b) settles.0 settles.1)

  pub size_part : (P Q : Generation) → IsPart R P Q → (n : ℕ) → size (generation R P n) ≤ size (generation R Q n)
  size_part P Q part n =
      let e = size-union_ever P part.rest n part.apart in
      let same : size (generation R (union P part.rest) n) ≡ size (generation R Q n) =
      ap (λ H. size (generation R H n)) part.together in
      omega arith

  -- what grows is no part of what has a bound
  pub not_within_a_bound : (P Q : Generation) → IsPart R P Q → HasBound R Q → HasNoBound R P → ⊥
  not_within_a_bound P Q part bound none =
      let most : ℕ = bound.0 in
      let found = none (most + 1) in
      let large : most + 1 ≤ size (generation R P found.0) = found.1 in
      let le = size_part P Q part found.0 in
      let few : size (generation R Q found.0) ≤ most = bound.1 found.0 in
      absurd (omega arith)
