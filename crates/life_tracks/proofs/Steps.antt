-- A class becomes the classes of the next generation whose parent it is.
use Rattle.std.proofs.Common.{◌≡◌, ◌≢◌, ℕ, ◌<◌, true, List, length, get_or, inl, inr, sym, ap, subst, ◌∙◌, arith}
use Rattle.std.specs.List.{AllPairs}
use Rattle.std.proofs.lemmas.Bool.{cases_eq, cases_lt}
use Rattle.std.proofs.lemmas.List.{get_or_default}
use Rattle.std.proofs.lemmas.List.Elements.{All-contains, Contains-get_or}
use Rattle.life_model.specs.Cell.{Cell}
use Rattle.life_model.specs.Rule.{Rule}
use Rattle.life_model.specs.Generation.{Generation, contains, empty}
use Rattle.life_model.specs.Evolution.{generation, next}
use Rattle.life_model.proofs.Moves.{nothing_or_some}
use Rattle.life_objects.specs.Apart.{AreApart, AreApartFor, AreDisjoint}
use Rattle.life_objects.specs.Union.{IsSubsetOf, union}
use Rattle.life_objects.proofs.Distances.{disjoint_from_apart}
use Rattle.life_objects.proofs.Lists.{AllPairs-weaker}
use Rattle.life_objects.proofs.Many.{next-union_of}
use Rattle.life_objects.proofs.Members.{found_now, in_list}
use Rattle.life_objects.proofs.Sides.{within_each_other}
use Rattle.life_objects.proofs.Unions.{in_empty, in_first, in_second, in_union}
use Rattle.life_growth.specs.Unsplit.{AreClasses}
use Rattle.life_growth.proofs.FilmLemmas.Splits.{apart_now}
use Rattle.life_tracks.specs.Frames.Frames.{AreParents}
use Rattle.life_tracks.specs.Lines.{IsSibling}
use Rattle.life_tracks.specs.Readings.{AreLeft}

module _ (R : Rule) where
  classes_apart : (b : ℕ) (G : Generation) (Ps : List Generation) → AreClasses R b G Ps → AllPairs AreApart Ps
  classes_apart b G Ps classes = AllPairs-weaker (AreApartFor R b) AreApart (apart_now R b) Ps classes.apart

  -- different classes share no cell
  pub classes_disjoint : (b : ℕ) (G : Generation) (Ps : List Generation) → AreClasses R b G Ps → (i j : ℕ) →
      i < length Ps → j < length Ps → j ≢ i → (c : Cell) → contains (get_or Ps i empty) c ≡ true →
      contains (get_or Ps j empty) c ≡ true → ⊥
  classes_disjoint b G Ps classes i j hi hj other c one two =
      let apart = classes_apart b G Ps classes in
      elim (cases_lt i j) [
        | inl before ↦ disjoint_from_apart (get_or Ps i empty) (get_or Ps j empty) (apart i j empty before hj) c one two
        | inr past ↦ elim (cases_lt j i) [
          | inl after ↦ disjoint_from_apart (get_or Ps j empty) (get_or Ps i empty) (apart j i empty after hi) c two one
          | inr same ↦ let e : j ≡ i = omega arith in other e
        ]
      ]

  -- what a class bears is in the next generation
  pub bears_within : (b : ℕ) (G : Generation) (Ps : List Generation) → AreClasses R b G Ps → (i : ℕ) → i < length Ps →
      IsSubsetOf (next R (get_or Ps i empty)) (next R G)
  unfolding generation
  bears_within b G Ps classes i h c one =
      ap (λ H. contains H c) (ap (next R) (sym classes.together) ∙ next-union_of R Ps (classes_apart b G Ps classes))
      ∙ in_list R 1 Ps (get_or Ps i empty) c (Contains-get_or Ps i empty h) one

  -- the place of the class that has a cell
  pub class_with : (b : ℕ) (G : Generation) (Ps : List Generation) → AreClasses R b G Ps → (c : Cell) →
      contains G c ≡ true → (j : ℕ) × (j < length Ps) × (contains (get_or Ps j empty) c ≡ true)
  class_with b G Ps classes c one =
      let P = found_now R Ps c (ap (λ H. contains H c) classes.together ∙ one) in (
        P.1.0,
        P.1.1,
        ap (λ H. contains H c) (get_or_default Ps P.1.0 empty P.0 P.1.1 ∙ P.1.2) ∙ P.2,
      )

  module _ (a b : ℕ) (G : Generation) (Ps Qs : List Generation) (places : List ℕ) (classes : AreClasses R a G Ps)
      (later : AreClasses R b (next R G) Qs) (parents : AreParents R Ps Qs places) where
    -- a class that bears a cell of another is that one's parent
    pub bearer_is_parent : (i j : ℕ) (c : Cell) → i < length Ps → j < length Qs → contains (get_or Qs j empty) c ≡ true →
        contains (next R (get_or Ps i empty)) c ≡ true → i ≡ get_or places j 0
    bearer_is_parent i j c hi hj one bears = (parents.each j hj).only i c hi one bears

    module _ (i j : ℕ) (hi : i < length Ps) (hj : j < length Qs) (is_parent : get_or places j 0 ≡ i) (L : Generation)
        (left : AreLeft Qs places j L) where
      in_classes : (k : ℕ) → k < length places → k < length Qs
      in_classes k h = let count = parents.count in omega arith

      becomes : IsSubsetOf (union (get_or Qs j empty) L) (next R (get_or Ps i empty))
      becomes c one =
          elim (in_union (get_or Qs j empty) L c one) [
            | inl core ↦
                subst (λ k. contains (next R (get_or Ps k empty)) c ≡ true) is_parent ((parents.each j hj).bears c core)
            | inr gone ↦
                let s = left.from c gone in
                subst (λ k. contains (next R (get_or Ps k empty)) c ≡ true) (s.sibling.same ∙ is_parent)
                ((parents.each s.other (in_classes s.other s.sibling.within)).bears c s.has)
          ]

      is_made_of : IsSubsetOf (next R (get_or Ps i empty)) (union (get_or Qs j empty) L)
      is_made_of c bears =
          let k = class_with b (next R G) Qs later c (bears_within a G Ps classes i hi c bears) in
          let parent = bearer_is_parent i k.0 c hi k.1 k.2 bears in
          let count = parents.count in
          let inside : k.0 < length Qs = k.1 in
          elim (cases_eq k.0 j) [
            | inl same ↦ in_first (get_or Qs j empty) L c (ap (λ m. contains (get_or Qs m empty) c) (sym same) ∙ k.2)
            | inr other ↦ in_second (get_or Qs j empty) L c (left.all c (record {
              other = k.0;
              before = omega arith;
              sibling = record { within = omega arith; other = other; same = sym parent ∙ sym is_parent };
              has = k.2;
            }))
          ]

      pub becomes_core_and_left : union (get_or Qs j empty) L ≡ next R (get_or Ps i empty)
      becomes_core_and_left =
          within_each_other (union (get_or Qs j empty) L) (next R (get_or Ps i empty)) becomes is_made_of

      pub core_without_left : AreDisjoint (get_or Qs j empty) L
      core_without_left c core gone =
          let s = left.from c gone in
          classes_disjoint b (next R G) Qs later j s.other hj (in_classes s.other s.sibling.within) s.sibling.other c core s.has

      pub something_left : (k : ℕ) → IsSibling places j k → L ≢ empty
      something_left k sibling none =
          elim (nothing_or_some (get_or Qs k empty)) [
            | inl gone ↦
                All-contains (λ P. P ≢ empty) Qs (get_or Qs k empty) later.nonempty
                (Contains-get_or Qs k empty (in_classes k sibling.within)) gone
            | inr cell ↦ in_empty cell.0 (ap (λ H. contains H cell.0) (sym none) ∙ left.all cell.0 (record {
              other = k;
              before = sibling.within;
              sibling = sibling;
              has = cell.1;
            }))
          ]
