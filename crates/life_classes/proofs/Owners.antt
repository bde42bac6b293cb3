-- Which one of several sets that are apart a cell of the next generation comes from.
use Rattle.std.proofs.Common.{◌≡◌, ◌<◌, true, List, [], ◌∷◌, inl, inr, sym, ap, ◌∙◌}
use Rattle.std.proofs.Common.{arith}
use Rattle.std.proofs.lemmas.Bool.{and_from, and_parts}
use Rattle.std.specs.List.{AllPairs, Contains}
use Rattle.life_model.specs.Cell.{Cell, IsNear}
use Rattle.life_model.specs.Rule.{Rule}
use Rattle.life_model.specs.Generation.{Generation, contains, keep}
use Rattle.life_model.specs.Evolution.{next}
use Rattle.life_model.proofs.Generations.{contains-keep}
use Rattle.life_model.proofs.Near.{next_near}
use Rattle.life_objects.specs.Apart.{AreApart}
use Rattle.life_objects.specs.Union.{union, union_of}
use Rattle.life_objects.proofs.Alone.{next-union}
use Rattle.life_objects.proofs.Distances.{apart_from_union_of, near_through}
use Rattle.life_objects.proofs.Lists.{AllPairs-head, AllPairs-tail, head_or_later}
use Rattle.life_objects.proofs.Members.{in_list_now, next_within}
use Rattle.life_objects.proofs.Sides.{within_each_other}
use Rattle.life_objects.proofs.Unions.{in_union}
use Rattle.life_classes.specs.Nearness.{reaches}
use Rattle.life_classes.proofs.Reached.{touched_by, touching}

module _ (R : Rule) where
  module _ (Q : Generation) (Qs : List Generation) (far : AllPairs AreApart (Q ∷ Qs)) where
    apart_from_rest : AreApart Q (union_of Qs)
    apart_from_rest = apart_from_union_of Q Qs (AllPairs-head AreApart Q Qs far)

    step : next R (union_of (Q ∷ Qs)) ≡ union (next R Q) (next R (union_of Qs))
    step = next-union R Q (union_of Qs) apart_from_rest

  -- a cell at most one away from a cell of P comes from P
  pub owner : (Ps : List Generation) → AllPairs AreApart Ps → (P : Generation) → Contains Ps P → (c g : Cell) →
      contains (next R (union_of Ps)) c ≡ true → contains P g ≡ true → IsNear c g → contains (next R P) c ≡ true
  owner [] far P one c g h k near = let none : one.0 < 0 = one.1 in absurd (omega arith)
  owner (Q ∷ Qs) far P one c g h k near =
      let apart = apart_from_rest Q Qs far in
      let either = in_union (next R Q) (next R (union_of Qs)) c (ap (λ H. contains H c) (sym (step Q Qs far)) ∙ h) in
      elim (head_or_later Q P Qs one.0 one.1 one.2) [
        | inl same ↦ elim either [
          | inl here ↦ ap (λ H. contains (next R H) c) (sym same) ∙ here
          | inr other ↦
              let f = next_near R (union_of Qs) c other in
              absurd (apart g f.0 (ap (λ H. contains H g) same ∙ k) f.1 (near_through c g f.0 near f.2))
        ]
        | inr later ↦ elim either [
          | inl here ↦
              let f = next_near R Q c here in
              absurd (apart f.0 g f.1 (in_list_now R Qs P g later k) (near_through c f.0 g f.2 near))
          | inr other ↦ owner Qs (AllPairs-tail AreApart Q Qs far) P later c g other k near
        ]
      ]

  -- the next generation of one of the sets, found in that of all
  pub next_by_touch : (Ps : List Generation) → AllPairs AreApart Ps → (P : Generation) → Contains Ps P →
      keep (next R (union_of Ps)) (reaches 1 P) ≡ next R P
  next_by_touch Ps far P one =
      within_each_other _ _
      (λ c h.
      let parts = and_parts (contains (next R (union_of Ps)) c) (reaches 1 P c)
      (sym (contains-keep (next R (union_of Ps)) (reaches 1 P) c) ∙ h) in
      let g = touched_by P c parts.1 in
      owner Ps far P one c g.0 parts.0 g.1 g.2)
      (λ c h.
      let g = next_near R P c h in
      contains-keep (next R (union_of Ps)) (reaches 1 P) c
      ∙ and_from (contains (next R (union_of Ps)) c) (reaches 1 P c) (next_within R Ps far P one c h)
      (touching P c g.0 g.1 g.2))
