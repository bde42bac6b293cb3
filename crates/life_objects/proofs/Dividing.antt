-- No two sets of an undivided pattern that stay apart from each other and from the rest both live on.
use Rattle.std.proofs.Common.{◌≡◌, ◌≢◌, ℕ, List, ◌∷◌, get_or, inl, inr, sym, ap, subst, ◌∙◌, arith}
use Rattle.std.specs.List.{All, AllPairs, Contains}
use Rattle.std.proofs.lemmas.List.Elements.{All-map, All-weaker, Contains-get_or}
use Rattle.std.proofs.lemmas.List.Sorted.{Contains-permutation}
use Rattle.life_model.specs.Rule.{Rule}
use Rattle.life_model.specs.Generation.{Generation, contains}
use Rattle.life_model.specs.Evolution.{generation}
use Rattle.life_model.proofs.Moves.{nothing_or_some}
use Rattle.life_objects.specs.Apart.{AreApart, AreApartFor}
use Rattle.life_objects.specs.Piece.{LivesThrough, IsSplit, IsUndivided}
use Rattle.life_objects.specs.Union.{generations, union_of}
use Rattle.life_objects.proofs.Distances.{AreApart-swap, apart_from_union_of}
use Rattle.life_objects.proofs.Lists.{set_aside, not_the_head}
use Rattle.life_objects.proofs.Many.{list_a_while}
use Rattle.life_objects.proofs.Members.{in_list}
use Rattle.life_objects.proofs.OneList.{union_of-IsPermutation}
use Rattle.life_objects.proofs.Staying.{NotBothLive}
use Rattle.life_objects.proofs.Times.{disjoint_a_while}
use Rattle.life_objects.proofs.Unions.{in_empty}

module _ (R : Rule) (b : ℕ) where
  pub AreApartFor-swap : (P Q : Generation) → AreApartFor R b P Q → AreApartFor R b Q P
  AreApartFor-swap P Q far n h = AreApart-swap (generation R P n) (generation R Q n) (far n h)

  pub apart_from_rest : (P : Generation) (Qs : List Generation) → All (AreApartFor R b P) Qs →
      AllPairs (AreApartFor R b) Qs →
      AreApartFor R b P (union_of Qs)
  apart_from_rest P Qs far pairs n h =
      subst (AreApart (generation R P n)) (sym (list_a_while R b n Qs pairs (omega arith)))
      (apart_from_union_of (generation R P n) (generations R Qs n)
      (All-map (AreApart (generation R P n)) (λ Q. generation R Q n) Qs
      (All-weaker (AreApartFor R b P) (λ Q. AreApart (generation R P n) (generation R Q n)) (λ Q a. a n h) Qs far)))

  living_differ : (P Q : Generation) → AreApartFor R b P Q → LivesThrough R b P → P ≢ Q
  living_differ P Q far live same =
      elim (nothing_or_some (generation R P b)) [
        | inl gone ↦ live gone
        | inr x ↦ disjoint_a_while R b b P Q far (omega arith) x.0 x.1
            (ap (λ H. contains (generation R H b) x.0) (sym same) ∙ x.1)
      ]

  module _ (Ps : List Generation) (pairs : AllPairs (AreApartFor R b) Ps) where
    lives_with : (P : Generation) → Contains Ps P → LivesThrough R b P → LivesThrough R b (union_of Ps)
    lives_with P one live gone =
        elim (nothing_or_some (generation R P b)) [
          | inl none ↦ live none
          | inr x ↦ in_empty x.0
              (ap (λ H. contains H x.0) (sym gone ∙ list_a_while R b b Ps pairs (omega arith))
              ∙ in_list R b Ps P x.0 one x.1)
        ]

  module _ (G : Generation) (Ps : List Generation) (whole : union_of Ps ≡ G) (pairs : AllPairs (AreApartFor R b) Ps)
      (undivided : IsUndivided R b G) where
    not_two : (P Q : Generation) → Contains Ps P → Contains Ps Q → P ≢ Q → NotBothLive R b P Q
    not_two P Q p q differ h k =
        let aside = set_aside (AreApartFor R b) AreApartFor-swap Ps P p pairs in
        let split : IsSplit R b G P (union_of aside.rest) = record {
          together = sym (union_of-IsPermutation Ps (P ∷ aside.rest) aside.order) ∙ whole;
          apart = apart_from_rest P aside.rest aside.related aside.pairs;
        } in
        let other = not_the_head P Q aside.rest (Contains-permutation Ps (P ∷ aside.rest) Q aside.order q) differ in
        undivided P (union_of aside.rest) split h (lives_with aside.rest aside.pairs Q other k)

    pub few_by_undivided : AllPairs (NotBothLive R b) Ps
    few_by_undivided i j d h k live =
        not_two (get_or Ps i d) (get_or Ps j d) (Contains-get_or Ps i d (omega arith)) (Contains-get_or Ps j d k)
        (living_differ (get_or Ps i d) (get_or Ps j d) (pairs i j d h k) live) live
