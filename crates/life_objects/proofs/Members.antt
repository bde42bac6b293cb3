-- Which set of a list has a cell.
use Rattle.std.proofs.Common.{◌≡◌, ℕ, ◌<◌, true, List, [], ◌∷◌, inl, inr, sym, ap, ◌∙◌, arith}
use Rattle.std.specs.List.{AllPairs, Contains}
use Rattle.life_model.specs.Cell.{Cell}
use Rattle.life_model.specs.Rule.{Rule}
use Rattle.life_model.specs.Generation.{Generation, contains}
use Rattle.life_model.specs.Evolution.{generation, next}
use Rattle.life_objects.specs.Union.{generations, union_of}
use Rattle.life_objects.specs.Apart.{AreApart}
use Rattle.life_objects.proofs.Lists.{Contains-head, Contains-later, head_or_later}
use Rattle.life_objects.proofs.Many.{generations-zero, next-union_of}
use Rattle.life_objects.proofs.Unions.{in_union, in_empty, in_first, in_second}

module _ (R : Rule) where
  pub found_in : (n : ℕ) (Ps : List Generation) (c : Cell) → contains (union_of (generations R Ps n)) c ≡ true →
      (P : Generation) × Contains Ps P × (contains (generation R P n) c ≡ true)
  found_in n [] c h = absurd (in_empty c h)
  found_in n (P ∷ Ps) c h =
      elim (in_union (generation R P n) (union_of (generations R Ps n)) c h) [
        | inl here ↦ (P, Contains-head P Ps, here)
        | inr other ↦ let q = found_in n Ps c other in (q.0, Contains-later P q.0 Ps q.1, q.2)
      ]

  pub in_list : (n : ℕ) (Ps : List Generation) (P : Generation) (c : Cell) → Contains Ps P →
      contains (generation R P n) c ≡ true → contains (union_of (generations R Ps n)) c ≡ true
  in_list n [] P c one h = let none : one.0 < 0 = one.1 in absurd (omega arith)
  in_list n (Q ∷ Qs) P c one h =
      elim (head_or_later Q P Qs one.0 one.1 one.2) [
        | inl e ↦ in_first (generation R Q n) (union_of (generations R Qs n)) c
            (ap (λ H. contains (generation R H n) c) e ∙ h)
        | inr later ↦ in_second (generation R Q n) (union_of (generations R Qs n)) c (in_list n Qs P c later h)
      ]

  pub found_now : (Ps : List Generation) (c : Cell) → contains (union_of Ps) c ≡ true →
      (P : Generation) × Contains Ps P × (contains P c ≡ true)
  unfolding generation
  found_now Ps c h = found_in 0 Ps c (ap (λ Qs. contains (union_of Qs) c) (generations-zero R Ps) ∙ h)

  pub in_list_now : (Ps : List Generation) (P : Generation) (c : Cell) → Contains Ps P →
      contains P c ≡ true → contains (union_of Ps) c ≡ true
  unfolding generation
  in_list_now Ps P c one h = ap (λ Qs. contains (union_of Qs) c) (sym (generations-zero R Ps)) ∙ in_list 0 Ps P c one h

  -- the next generation of a list of sets that are apart, cell by cell
  pub next_found : (Ps : List Generation) → AllPairs AreApart Ps → (c : Cell) → contains (next R (union_of Ps)) c ≡ true →
      (P : Generation) × Contains Ps P × (contains (next R P) c ≡ true)
  unfolding generation
  next_found Ps pairs c h = found_in 1 Ps c (ap (λ H. contains H c) (sym (next-union_of R Ps pairs)) ∙ h)

  pub next_within : (Ps : List Generation) → AllPairs AreApart Ps → (P : Generation) → Contains Ps P → (c : Cell) →
      contains (next R P) c ≡ true → contains (next R (union_of Ps)) c ≡ true
  unfolding generation
  next_within Ps pairs P one c h = ap (λ H. contains H c) (next-union_of R Ps pairs) ∙ in_list 1 Ps P c one h
