-- What holds of sets, of those that have a cell alone.
use Rattle.std.proofs.Common.{◌≡◌, ◌≢◌, ℕ, ◌<◌, true, List, [], ◌∷◌, get_or, inl, inr, sym, ap, subst, ◌∙◌, arith}
use Rattle.std.specs.List.{All, Contains}
use Rattle.std.proofs.lemmas.List.Elements.{All-contains, Contains-get_or}
use Rattle.life_model.specs.Cell.{Cell}
use Rattle.life_model.specs.Rule.{Rule}
use Rattle.life_model.specs.Generation.{Generation, contains, empty}
use Rattle.life_model.specs.Evolution.{generation}
use Rattle.life_objects.specs.Union.{generations}
use Rattle.life_objects.proofs.Lists.{Contains-head, Contains-later, head_or_later}
use Rattle.life_objects.proofs.Times.{generation-empty}
use Rattle.life_objects.proofs.Unions.{in_empty}
use Rattle.life_parts.specs.Parts.Apart.{AreHeldApart, HaveBoth}
use Rattle.life_islands.specs.Labels.{AreThoseWithCells}

-- a set a while later is one of the sets a while later
later_listed : (R : Rule) (n : ℕ) (Ps : List Generation) (P : Generation) → Contains Ps P →
    Contains (generations R Ps n) (generation R P n)
later_listed R n [] P one = let none : one.0 < 0 = one.1 in absurd (omega arith)
later_listed R n (Q ∷ Qs) P one = elim (head_or_later Q P Qs one.0 one.1 one.2) [
  | inl same ↦
      subst (λ S. Contains (generation R Q n ∷ generations R Qs n) (generation R S n)) same
      (Contains-head (generation R Q n) (generations R Qs n))
  | inr later ↦
      Contains-later (generation R Q n) (generation R P n) (generations R Qs n) (later_listed R n Qs P later)
]

-- and each of these is what one of them has become
listed_before : (R : Rule) (n : ℕ) (Ps : List Generation) (X : Generation) → Contains (generations R Ps n) X →
    (P : Generation) × Contains Ps P × (generation R P n ≡ X)
listed_before R n [] X one = let none : one.0 < 0 = one.1 in absurd (omega arith)
listed_before R n (Q ∷ Qs) X one = elim (head_or_later (generation R Q n) X (generations R Qs n) one.0 one.1 one.2) [
  | inl same ↦ (Q, Contains-head Q Qs, same)
  | inr later ↦ let q = listed_before R n Qs X later in (q.0, Contains-later Q q.0 Qs q.1, q.2)
]

module _ (Hs Ks : List Generation) (those : AreThoseWithCells Hs Ks) where
  pub all_those : (A : Generation → Type 0) → All A Hs → All A Ks
  all_those A all k d h = All-contains A Hs (get_or Ks k d) all (those.from (get_or Ks k d) (Contains-get_or Ks k d h))

  -- what holds of any two cells of one set
  pub pairs_of_those : (A : Cell → Cell → Type 0) →
      ((H : Generation) → Contains Hs H → (c e : Cell) → contains H c ≡ true → contains H e ≡ true → A c e) →
      (K : Generation) → Contains Ks K → (c e : Cell) → contains K c ≡ true → contains K e ≡ true → A c e
  pairs_of_those A all K one c e h k = all K (those.from K one) c e h k

  module _ (R : Rule) (n : ℕ) where
    those_later : (X : Generation) → Contains (generations R Ks n) X → Contains (generations R Hs n) X
    those_later X one =
        let p = listed_before R n Ks X one in
        subst (Contains (generations R Hs n)) p.2 (later_listed R n Hs p.0 (those.from p.0 p.1))

    -- a set that has a cell later has one now
    those_before : (X : Generation) (c : Cell) → Contains (generations R Hs n) X → contains X c ≡ true →
        Contains (generations R Ks n) X
    those_before X c one h =
        let p = listed_before R n Hs X one in
        let some : p.0 ≢ empty =
        λ none. in_empty c
        (ap (λ H. contains H c) (sym (generation-empty R n) ∙ ap (λ H. generation R H n) (sym none) ∙ p.2) ∙ h) in
        subst (Contains (generations R Ks n)) p.2 (later_listed R n Ks p.0 (those.to p.0 p.1 some))

    both_of_those : (c e : Cell) → HaveBoth (generations R Hs n) c e → HaveBoth (generations R Ks n) c e
    both_of_those c e both X one h = both X (those_later X one) h

    both_of_all : (c e : Cell) → HaveBoth (generations R Ks n) c e → HaveBoth (generations R Hs n) c e
    both_of_all c e both X one h = both X (those_before X c one h) h

    pub those_held_apart : (G : Generation) → AreHeldApart R G (generations R Hs n) → AreHeldApart R G (generations R Ks n)
    those_held_apart G apart = record {
      islands = λ c e h k near. both_of_those c e (apart.islands c e h k near);
      places = λ x h. elim (apart.places x h) [
        | inl one ↦ inl (λ c e a b. both_of_those c e (one c e a b))
        | inr fair ↦ inr (λ colour islands same.
            let f = fair colour islands (λ c e a b alike. both_of_all c e (same c e a b alike)) in
            (f.0, λ c a b X one h. f.1 c a b X (those_later X one) h))
      ];
    }
