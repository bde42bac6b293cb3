-- A set and the other cells of a generation, for as long as they stay apart.
use Rattle.std.proofs.Common.{◌≡◌, ℕ, zero, suc, ◌+◌, ◌-◌, ◌<◌, true, not, ◌⊎◌, inl, inr, sym, ap, subst, ◌∙◌, arith, true≢false}
use Rattle.std.proofs.lemmas.Bool.{and_from, and_parts, cases_Bool, cases_lt}
use Rattle.life_model.specs.Cell.{Cell}
use Rattle.life_model.specs.Rule.{Rule}
use Rattle.life_model.specs.Generation.{Generation, contains}
use Rattle.life_model.specs.Evolution.{generation}
use Rattle.life_model.proofs.Generations.{contains-keep}
use Rattle.life_model.proofs.Recurrences.{generation-add, generation-zero}
use Rattle.life_objects.specs.Apart.{AreApart, AreApartBefore, AreDisjoint}
use Rattle.life_objects.specs.Union.{IsSubsetOf, union}
use Rattle.life_objects.proofs.Sides.{within_each_other}
use Rattle.life_objects.proofs.Times.{disjoint_after, generation-union}
use Rattle.life_objects.proofs.Unions.{in_first, in_second, in_union}
use Rattle.life_apart.specs.Alone.{IsEndAlone, others_of}

module _ (G L : Generation) where
  pub in_others : (c : Cell) → contains (others_of G L) c ≡ true → (contains G c ≡ true) × (contains L c ≡ true → ⊥)
  in_others c h =
      let both = and_parts _ _ (sym (contains-keep G (λ q. not (contains L q)) c) ∙ h) in
      (both.0, λ k. true≢false (sym both.1 ∙ ap not k))

  apart_at_first : AreDisjoint L (others_of G L)
  apart_at_first c h k = (in_others c k).1 h

  module _ (sub : IsSubsetOf L G) where
    pub in_set_or_others : (c : Cell) → contains G c ≡ true → (contains L c ≡ true) ⊎ (contains (others_of G L) c ≡ true)
    in_set_or_others c h =
        elim (cases_Bool (contains L c)) [
          | inl l ↦ inl l
          | inr gone ↦ inr (contains-keep G (λ q. not (contains L q)) c ∙ and_from _ _ h (ap not gone))
        ]

    pub together : union L (others_of G L) ≡ G
    together =
        within_each_other (union L (others_of G L)) G
        (λ c h. elim (in_union L (others_of G L) c h) [ inl l ↦ sub c l | inr r ↦ (in_others c r).0 ])
        (λ c h. elim (in_set_or_others c h) [
          | inl l ↦ in_first L (others_of G L) c l
          | inr r ↦ in_second L (others_of G L) c r
        ])

    module _ (R : Rule) where
      disjoint_then : (n : ℕ) → AreApartBefore R n L (others_of G L) →
          AreDisjoint (generation R L n) (generation R (others_of G L) n)
      disjoint_then zero far c h k =
          apart_at_first c (ap (λ H. contains H c) (sym (generation-zero R L)) ∙ h)
          (ap (λ H. contains H c) (sym (generation-zero R (others_of G L))) ∙ k)
      disjoint_then (suc n) far c h k = disjoint_after R n L (others_of G L) (far n (omega arith)) c h k

      others_then : (n : ℕ) → AreApartBefore R n L (others_of G L) →
          IsSubsetOf (generation R (others_of G L) n) (generation R G n)
      others_then n far c h =
          ap (λ H. contains H c) (ap (λ H. generation R H n) (sym together) ∙ generation-union R n L (others_of G L) far)
          ∙ in_second (generation R L n) (generation R (others_of G L) n) c h

      -- if the other cells stay away for some generations more
      pub apart_longer : (n k : ℕ) (now alone : Generation) → now ≡ generation R G n → alone ≡ generation R L n →
          AreApartBefore R n L (others_of G L) →
          ((Q : Generation) → IsSubsetOf Q now → AreDisjoint alone Q → AreApartBefore R k alone Q) →
          AreApartBefore R (n + k) L (others_of G L)
      apart_longer n k now alone all_now set_now so_far away m h =
          elim (cases_lt m n) [
            | inl early ↦ so_far m early
            | inr late ↦
                let O = others_of G L in
                let rest : ℕ = m - n in
                let e : n + rest ≡ m = omega arith in
                let far =
                away (generation R O n) (λ c x. ap (λ H. contains H c) all_now ∙ others_then n so_far c x)
                (λ c x y. disjoint_then n so_far c (ap (λ H. contains H c) (sym set_now) ∙ x) y) rest (omega arith) in
                subst (λ i. AreApart (generation R L i) (generation R O i)) e
                (subst (λ H. AreApart H (generation R O (n + rest)))
                (ap (λ H. generation R H rest) set_now ∙ generation-add R L n rest)
                (subst (AreApart (generation R alone rest)) (generation-add R O n rest) far))
          ]

      -- a set that was alone for more than b generations
      pub end_then : (b sure : ℕ) (end : Generation) → b < sure → AreApartBefore R sure L (others_of G L) →
          end ≡ generation R L b → IsEndAlone R b G L end
      end_then b sure end h far is = record {
        others = others_of G L;
        split = record { together = together; apart = λ n k. far n (omega arith) };
        becomes = is;
      }
