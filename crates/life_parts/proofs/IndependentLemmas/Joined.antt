-- Single cells, and two sets with tied cells made one.
use Rattle.std.proofs.Common.{◌≡◌, ◌≢◌, ◌<◌, true, ◌||◌, List, [], ◌∷◌, get_or, length, inl, inr, sym, ap, subst, ◌∙◌, arith}
use Rattle.std.specs.List.{All, Contains}
use Rattle.std.proofs.Math.Bool.{or_assoc}
use Rattle.std.proofs.lemmas.List.Elements.{All-cons, All-contains, All-head, All-nil, All-tail, Contains-get_or}
use Rattle.std.proofs.lemmas.List.Kept.{AllPairs-cons}
use Rattle.std.proofs.lemmas.List.Sorted.{Contains-permutation, IsPermutation-sym, length_permutation}
use Rattle.life_model.specs.Cell.{Cell}
use Rattle.life_model.specs.Rule.{Rule}
use Rattle.life_model.specs.Generation.{Generation, cells, contains, empty, from_list}
use Rattle.life_model.proofs.Generations.{cells-rise, contains-empty, from_list-cells, same_members}
use Rattle.life_objects.specs.Apart.{AreDisjoint}
use Rattle.life_objects.specs.Union.{union, union_of}
use Rattle.life_objects.proofs.Lists.{Contains-later, IsSetAside, head_or_later, set_aside}
use Rattle.life_objects.proofs.OneList.{union_of-IsPermutation}
use Rattle.life_objects.proofs.Unions.{contains-union, in_first, in_union}
use Rattle.life_parts.specs.Parts.Ties.{AreTied, itself, swapped, through}
use Rattle.life_parts.proofs.PartsLemmas.Ends.{both_in}
use Rattle.life_parts.proofs.PartsLemmas.Evolving.{at_first, in_at_first}
use Rattle.life_parts.proofs.PartsLemmas.Lists.{is_some}
use Rattle.life_parts.proofs.IndependentLemmas.Added.{AreGroupsOf, IsAdded, IsGrouping, alone, groups_make_up, insert-is, later, more, none}
use Rattle.life_parts.proofs.IndependentLemmas.Rooted.{AreTiedWithin, AreTwoTied}
use Rattle.life_parts.proofs.IndependentLemmas.Sets.{both_of, groups_make, owner_of, whole_has}

-- ---- single cells

-- the set has no two cells
abbrev IsSingle : Generation → Type 0
IsSingle Q = (x y : Cell) → contains Q x ≡ true → contains Q y ≡ true → x ≡ y

module _ (c : Cell) where
  only : (x : Cell) → contains (from_list (c ∷ [])) x ≡ true → x ≡ c
  only x h = insert-is empty c x h (contains-empty x)

  add_alone : (Qs : List Generation) → All IsSingle Qs → (Hs : List Generation) × IsAdded c Qs Hs × All IsSingle Hs
  add_alone [] all =
      (from_list (c ∷ []) ∷ [], alone, All-cons IsSingle (from_list (c ∷ [])) [] (λ x y h k. only x h ∙ sym (only y k)) (All-nil IsSingle))
  add_alone (Q ∷ Qs) all =
      let new = add_alone Qs (All-tail IsSingle Q Qs all) in
      (Q ∷ new.0, later Q Qs new.0 new.1, All-cons IsSingle Q new.0 (All-head IsSingle Q Qs all) new.2)

singles : (cs : List Cell) → (Hs : List Generation) × IsGrouping cs Hs × All IsSingle Hs
singles [] = ([], none, All-nil IsSingle)
singles (c ∷ cs) =
    let rest = singles cs in
    let new = add_alone c rest.0 rest.2 in
    (new.0, more c cs rest.0 new.0 rest.1 new.1, new.2)

module _ (R : Rule) (P : Generation) where
  -- Sets that make up P, each tied within.
  pub record AreTiedGroups (Hs : List Generation) : Type 0 where
    pub groups : AreGroupsOf P Hs
    pub within : AreTiedWithin R P Hs

  pub single_cells : (Hs : List Generation) × AreTiedGroups Hs
  single_cells =
      let s = singles (cells P) in
      let Hs = s.0 in
      let groups = subst (λ G. AreGroupsOf G Hs) (from_list-cells P) (groups_make_up (cells P) Hs s.1 (cells-rise P)) in (
        Hs,
        record {
          groups = groups;
          within = λ H one c e h k.
              subst (AreTied R P 0 c 0) (All-contains IsSingle Hs H s.2 one c e h k)
              (itself 0 c (at_first R P c (whole_has P Hs (groups_make P Hs groups) H one c h)));
        },
      )

  -- ---- two sets made one

  module _ (Hs : List Generation) (are : AreTiedGroups Hs) (two : AreTwoTied R P Hs) where
    in_P : (contains P two.cell ≡ true) × (contains P two.other ≡ true)
    in_P = let b = both_in R P 0 0 two.cell two.other two.tied in (in_at_first R P two.cell b.0, in_at_first R P two.other b.1)

    first : (A : Generation) × Contains Hs A × (contains A two.cell ≡ true)
    first = owner_of P Hs (groups_make P Hs are.groups) two.cell in_P.0

    second : (B : Generation) × Contains Hs B × (contains B two.other ≡ true)
    second = owner_of P Hs (groups_make P Hs are.groups) two.other in_P.1

    abbrev A : Generation
    A = first.0

    abbrev B : Generation
    B = second.0

    disjoint_swapped : (X Y : Generation) → AreDisjoint X Y → AreDisjoint Y X
    disjoint_swapped X Y far c h k = far c k h

    without : IsSetAside AreDisjoint Hs A
    without = set_aside AreDisjoint disjoint_swapped Hs A first.1 are.groups.once

    in_rest : Contains without.rest B
    in_rest =
        let there = Contains-permutation Hs (A ∷ without.rest) B without.order second.1 in
        elim (head_or_later A B without.rest there.0 there.1 there.2) [
          | inl same ↦
              absurd (two.parted (both_of P Hs (groups_make P Hs are.groups) A first.1 two.cell two.other first.2
              (ap (λ H. contains H two.other) same ∙ second.2)))
          | inr other ↦ other
        ]

    left : IsSetAside AreDisjoint without.rest B
    left = set_aside AreDisjoint disjoint_swapped without.rest B in_rest without.pairs

    abbrev others : List Generation
    others = left.rest

    pub joined : List Generation
    joined = union A B ∷ others

    was_there : (H : Generation) → Contains others H → Contains without.rest H
    was_there H one =
        Contains-permutation (B ∷ others) without.rest H (IsPermutation-sym without.rest (B ∷ others) left.order) (Contains-later B H others one)

    was_in : (H : Generation) → Contains without.rest H → Contains Hs H
    was_in H one =
        Contains-permutation (A ∷ without.rest) Hs H (IsPermutation-sym Hs (A ∷ without.rest) without.order) (Contains-later A H without.rest one)

    pub fewer : length joined < length Hs
    unfolding joined
    fewer =
        let x = length_permutation Hs (A ∷ without.rest) without.order in
        let y = length_permutation without.rest (B ∷ others) left.order in
        omega arith

    three : (S : Generation) → union (union A B) S ≡ union A (union B S)
    three S = same_members _ _ (λ c.
        contains-union (union A B) S c ∙ ap (λ b. b || contains S c) (contains-union A B c)
        ∙ or_assoc (contains A c) (contains B c) (contains S c)
        ∙ sym (contains-union A (union B S) c ∙ ap (λ b. contains A c || b) (contains-union B S c)))

    joined_groups : AreGroupsOf P joined
    unfolding joined
    joined_groups = record {
      together = three (union_of others)
          ∙ ap (union A) (sym (union_of-IsPermutation without.rest (B ∷ others) left.order))
          ∙ sym (union_of-IsPermutation Hs (A ∷ without.rest) without.order) ∙ are.groups.together;
      once = AllPairs-cons AreDisjoint (union A B) others (λ k d l c h m.
          let H = get_or others k d in
          let one = Contains-get_or others k d l in
          elim (in_union A B c h) [
            | inl of_A ↦ All-contains (AreDisjoint A) without.rest H without.related (was_there H one) c of_A m
            | inr of_B ↦ All-contains (AreDisjoint B) others H left.related one c of_B m
          ]) left.pairs;
      some = All-cons (λ H. H ≢ empty) (union A B) others (is_some (union A B) two.cell (in_first A B two.cell first.2))
          (λ k d l.
          let H = get_or others k d in
          All-contains (λ H. H ≢ empty) Hs H are.groups.some (was_in H (was_there H (Contains-get_or others k d l))));
    }

    across : (x y : Cell) → contains A x ≡ true → contains B y ≡ true → AreTied R P 0 x 0 y
    across x y h k =
        through 0 0 0 x two.cell y (are.within A first.1 x two.cell h first.2)
        (through 0 0 0 two.cell two.other y two.tied (are.within B second.1 two.other y second.2 k))

    in_one : (x y : Cell) → contains (union A B) x ≡ true → contains (union A B) y ≡ true → AreTied R P 0 x 0 y
    in_one x y h k =
        elim (in_union A B x h) [
          | inl a ↦ elim (in_union A B y k) [
            | inl b ↦ are.within A first.1 x y a b
            | inr b ↦ across x y a b
          ]
          | inr a ↦ elim (in_union A B y k) [
            | inl b ↦ swapped 0 0 y x (across y x b a)
            | inr b ↦ are.within B second.1 x y a b
          ]
        ]

    pub joined_are : AreTiedGroups joined
    unfolding joined
    joined_are = record {
      groups = joined_groups;
      within = λ H one x y h k. elim (head_or_later (union A B) H others one.0 one.1 one.2) [
        | inl same ↦ in_one x y (ap (λ J. contains J x) same ∙ h) (ap (λ J. contains J y) same ∙ k)
        | inr other ↦ are.within H (was_in H (was_there H other)) x y h k
      ];
    }
