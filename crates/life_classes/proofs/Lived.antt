-- Where at most one class lives, the classes stay apart for ever.
use Rattle.std.proofs.Common.{◌≡◌, ◌≢◌, ◌⊎◌, ℕ, ◌+◌, ◌-◌, ◌<◌, ◌≤◌, List, [], ◌∷◌, get_or, map, inl, inr, length}
use Rattle.std.proofs.Common.{true, sym, refl, ap, subst, ◌∙◌, arith}
use Rattle.std.specs.List.{AllPairs}
use Rattle.std.proofs.lemmas.Bool.{cases_lt}
use Rattle.std.proofs.lemmas.List.Elements.{All-map}
use Rattle.life_model.specs.Rule.{Rule}
use Rattle.life_model.specs.Generation.{Generation, contains, empty}
use Rattle.life_model.specs.Evolution.{generation}
use Rattle.life_model.proofs.Moves.{nothing_or_some}
use Rattle.life_model.proofs.Recurrences.{generation-add}
use Rattle.life_objects.specs.Apart.{AreApart, AreApartBefore}
use Rattle.life_objects.specs.Union.{union_of}
use Rattle.life_objects.specs.Whole.{StaysWhole}
use Rattle.life_objects.proofs.Lists.{AllPairs-map}
use Rattle.life_objects.proofs.Times.{generation-empty}
use Rattle.life_objects.proofs.Unions.{in_empty}
use Rattle.life_classes.specs.declared.class.Class.{Class}
use Rattle.life_classes.specs.Tracking.{AreApartNow, AreFew, AreTracked, after, first_sets}

lives : (P : Generation) → (c : _) → contains P c ≡ true → P ≢ empty
lives P c h gone = in_empty c (ap (λ H. contains H c) (sym gone) ∙ h)

one_is_none : (P Q : Generation) → (P ≢ empty → Q ≢ empty → ⊥) → (P ≡ empty) ⊎ (Q ≡ empty)
one_is_none P Q few = elim (nothing_or_some P) [
  | inl none ↦ inl none
  | inr some ↦ elim (nothing_or_some Q) [
    | inl none ↦ inr none
    | inr other ↦ absurd (few (lives P some.0 some.1) (lives Q other.0 other.1))
  ]
]

apart_by_none : (P Q : Generation) → (P ≡ empty) ⊎ (Q ≡ empty) → AreApart P Q
apart_by_none P Q either c d x y near = elim either [
  | inl none ↦ in_empty c (ap (λ H. contains H c) (sym none) ∙ x)
  | inr none ↦ in_empty d (ap (λ H. contains H d) (sym none) ∙ y)
]

pub firsts-after : (R : Rule) (m : ℕ) (cs : List Class) → first_sets (map (after R m) cs) ≡ first_sets cs
firsts-after R m [] = refl
firsts-after R m (c ∷ cs) = ap (λ r. c.first ∷ r) (firsts-after R m cs)

module _ (R : Rule) (m : ℕ) where
  none_later : (P Q : Generation) → (P ≡ empty) ⊎ (Q ≡ empty) → AreApart (generation R P m) (generation R Q m)
  none_later P Q either = apart_by_none (generation R P m) (generation R Q m) (elim either [
    | inl none ↦ inl (ap (λ H. generation R H m) none ∙ generation-empty R m)
    | inr none ↦ inr (ap (λ H. generation R H m) none ∙ generation-empty R m)
  ])

  pub apart_later : (cs : List Class) → AreFew cs → AreApartNow (map (after R m) cs)
  apart_later cs few =
      AllPairs-map (λ c d. AreApart c.last d.last) (after R m) cs
      (λ i j x h k. none_later (get_or cs i x).last (get_or cs j x).last (one_is_none _ _ (few i j x h k)))

module _ (R : Rule) (b n : ℕ) (G : Generation) (cs : List Class) (t : AreTracked R b n G cs) (few : AreFew cs) (m : ℕ) where
  last_then : (k : ℕ) (x : Class) → k < length cs → (q : ℕ) → n ≤ q →
      generation R (get_or cs k x).last (q - n) ≡ generation R (get_or cs k x).first q
  last_then k x h q from =
      let whole : n + (q - n) ≡ q = omega arith in
      ap (λ H. generation R H (q - n)) (t.later k x h) ∙ generation-add R (get_or cs k x).first n (q - n)
      ∙ ap (generation R (get_or cs k x).first) whole

  before_later : AllPairs (λ c d. AreApartBefore R (n + m) c.first d.first) cs
  before_later i j x h k q l =
      let inside : i < length cs = omega arith in
      elim (cases_lt q n) [
        | inl earlier ↦ t.before i j x h k q earlier
        | inr later ↦
            subst (λ H. AreApart H (generation R (get_or cs j x).first q)) (last_then i x inside q later)
            (subst (λ H. AreApart (generation R (get_or cs i x).last (q - n)) H) (last_then j x k q later)
            (none_later R (q - n) (get_or cs i x).last (get_or cs j x).last (one_is_none _ _ (few i j x h k))))
      ]

  pub few_tracked : AreTracked R b (n + m) G (map (after R m) cs)
  few_tracked = record {
    together = ap union_of (firsts-after R m cs) ∙ t.together;
    whole = All-map (λ c. StaysWhole R b G c.first) (after R m) cs t.whole;
    before = AllPairs-map (λ c d. AreApartBefore R (n + m) c.first d.first) (after R m) cs before_later;
    later =
        All-map (λ c. c.last ≡ generation R c.first (n + m)) (after R m) cs
        (λ k x h.
        ap (λ H. generation R H m) (t.later k x h) ∙ generation-add R (get_or cs k x).first n m);
  }
