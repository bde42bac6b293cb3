-- Sets that make up a set more finely: what they make of a place, and one set put into groups while the others stay whole.
use Rattle.std.proofs.Common.{◌≡◌, ℕ, true, false, List, ◌∷◌, ◌++◌, inl, inr, sym, ap, ◌∙◌}
use Rattle.std.specs.Cmp as cmp
use Rattle.std.specs.List.{AllPairs, Contains}
use Rattle.std.proofs.lemmas.Bool.{both_ways, false_from_ne_true}
use Rattle.std.proofs.lemmas.List.Elements.{All-contains, Contains-append_cases, Contains-append_left, Contains-append_right}
use Rattle.std.proofs.lemmas.List.Sorted.{Contains-permutation, IsPermutation-sym}
use Rattle.life_model.specs.Cell.{Cell, IsNear}
use Rattle.life_model.specs.Rule.{Rule, born}
use Rattle.life_model.specs.Generation.{Generation, contains}
use Rattle.life_model.specs.Evolution.{next}
use Rattle.life_model.proofs.Near.{next_near}
use Rattle.life_objects.specs.Apart.{AreDisjoint}
use Rattle.life_objects.specs.Union.{IsSubsetOf, union, union_of}
use Rattle.life_objects.proofs.Lists.{AllPairs-append, AllPairs-weaker, Contains-later, IsSetAside, head_or_later, related_or_same, set_aside}
use Rattle.life_objects.proofs.OneList.{union_of-IsPermutation}
use Rattle.life_objects.proofs.Unions.{union_of-append}
use Rattle.life_parts.specs.Parts.Apart.{HaveBoth}
use Rattle.life_parts.specs.Parts.Groups.{ColoursIslands, IsAround, IsFair, bears, in_group}
use Rattle.life_parts.specs.Parts.Splittings.{AreUntouching}
use Rattle.life_parts.proofs.PartsLemmas.Around.{count_at-alike, near_swapped, next-born}
use Rattle.life_parts.proofs.PartsLemmas.Classed.{of_bearing, of_group, to_group}
use Rattle.life_objects.proofs.Ring.{near_itself}
use Rattle.life_parts.specs.Independent.Groupings.{splittings}
use Rattle.life_parts.proofs.IndependentLemmas.Fair.{IsFairOf}
use Rattle.life_parts.proofs.IndependentLemmas.Owners.{of_place, one_place, owner_place}
use Rattle.life_parts.proofs.IndependentLemmas.Sets.{MakeUp, both_of, groups_make, moved_over, owner_of, sharing, whole_has}
use Rattle.life_parts.proofs.IndependentLemmas.Split.{groups_of_splitting, untouching_of_splitting}

far_swapped : (A B : Generation) → AreUntouching A B → AreUntouching B A
far_swapped A B far c d h k near = far d c k h (near_swapped c d near)

pub disjoint_if_far : (A B : Generation) → AreUntouching A B → AreDisjoint A B
disjoint_if_far A B far c h k = far c c h k (near_itself c)

-- sets that don't touch have whole islands
pub whole_if_far : (G : Generation) (Ks : List Generation) → MakeUp G Ks → AllPairs AreUntouching Ks → (c d : Cell) →
    contains G c ≡ true → contains G d ≡ true → IsNear c d → HaveBoth Ks c d
whole_if_far G Ks make far c d h k near =
    let A = owner_of G Ks make c h in
    let B = owner_of G Ks make d k in
    elim (related_or_same AreUntouching far_swapped Ks A.0 B.0 A.1 B.1 far) [
      | inl apart ↦ absurd (apart c d A.2 B.2 near)
      | inr same ↦ both_of G Ks make A.0 A.1 c d A.2 (ap (λ H. contains H d) same ∙ B.2)
    ]

-- Sets that make up G, of whole islands, each within one of those at hand.
pub record AreFiner (G : Generation) (Hs Ks : List Generation) : Type 0 where
  pub make : MakeUp G Ks
  pub islands : (c d : Cell) → contains G c ≡ true → contains G d ≡ true → IsNear c d → HaveBoth Ks c d
  pub within : (K : Generation) → Contains Ks K → (H : Generation) × Contains Hs H × IsSubsetOf K H

module _ (R : Rule) (G : Generation) (Hs : List Generation) (are : MakeUp G Hs) (x : Cell) (place : contains G x ≡ false)
    (Ks : List Generation) (finer : AreFiner G Hs Ks) where
  abbrev colour : Cell → ℕ
  colour = owner_place Ks

  pub islands_coloured : ColoursIslands G colour
  islands_coloured c d h k near =
      let A = owner_of G Ks finer.make c h in
      one_place G Ks finer.make A.0 A.1 c d A.2 (finer.islands c d h k near A.0 A.1 A.2)

  pub within_sets : (c d : Cell) → IsAround G x c → IsAround G x d → colour c ≡ colour d → HaveBoth Hs c d
  within_sets c d at too e =
      let K = of_place G Ks finer.make c d at.live too.live e in
      let H = finer.within K.0 K.1 in
      both_of G Hs are H.0 H.1 c d (H.2 c K.2) (H.2 d K.3)

  set_bears : (K : Generation) → Contains Ks K → (c : Cell) → contains K c ≡ true →
      bears R G colour (colour c) x ≡ contains (next R K) x
  set_bears K one c h =
      ap (born R) (count_at-alike (in_group G colour (colour c)) (contains K) x (λ y near.
      cmp.both_ways (in_group G colour (colour c) y) (contains K y)
      (λ k.
      let b = of_group G colour (colour c) y k in
      let J = of_place G Ks finer.make c y (whole_has G Ks finer.make K one c h) b.0 (sym b.1) in
      moved_over G Ks finer.make J.0 K J.1 one c J.2 h y J.3)
      (λ k. to_group G colour (colour c) y (whole_has G Ks finer.make K one y k) (one_place G Ks finer.make K one y c k h))))
      ∙ sym (next-born R K x (false_from_ne_true (contains K x) (λ h. both_ways (contains G x) place (whole_has G Ks finer.make K one x h))))

  -- a set that makes a cell has one around, and its colour bears
  maker : (K : Generation) → Contains Ks K → contains (next R K) x ≡ true →
      (c : Cell) × IsAround G x c × (contains K c ≡ true) × (bears R G colour (colour c) x ≡ true)
  maker K one h =
      let c = next_near R K x h in (
        c.0,
        record { live = whole_has G Ks finer.make K one c.0 c.1; near = near_swapped x c.0 c.2 },
        c.1,
        set_bears K one c.0 c.1 ∙ h,
      )

  pub fair_by_colour : IsFair R G colour x → IsFairOf R G Ks x
  fair_by_colour fair = record {
    borne = λ h.
        let k = fair.borne h in
        let s = of_bearing R G colour x k.0 k.1 in
        let K = owner_of G Ks finer.make s.0 s.1.live in
        (K.0, K.1, sym (set_bears K.0 K.1 s.0 K.2) ∙ ap (λ l. bears R G colour l x) s.2 ∙ k.1);
    born = λ K one h. let c = maker K one h in fair.born (colour c.0) c.3;
    one = λ A B first second h k.
        let c = maker A first h in
        let d = maker B second k in
        let K = of_place G Ks finer.make c.0 d.0 c.1.live d.1.live (fair.one (colour c.0) (colour d.0) c.3 d.3) in
        sharing G Ks finer.make A K.0 first K.1 c.0 c.2 K.2 ∙ sharing G Ks finer.make K.0 B K.1 second d.0 K.3 d.2;
  }

module _ (R : Rule) (G : Generation) (Hs : List Generation) (are : MakeUp G Hs) (far : AllPairs AreUntouching Hs) where
  pub themselves : AreFiner G Hs Hs
  themselves = record { make = are; islands = whole_if_far G Hs are far; within = λ K one. (K, one, λ c h. h) }

  module _ (H : Generation) (one : Contains Hs H) (Gs : List Generation) (listed : Contains (splittings H) Gs) where
    pub make : MakeUp H Gs
    make = groups_make H Gs (groups_of_splitting H Gs listed)

    aside : IsSetAside AreUntouching Hs H
    aside = set_aside AreUntouching far_swapped Hs H one far

    abbrev others : List Generation
    others = aside.rest

    -- the groups of the one set, and the other sets
    pub regrouped : List Generation
    regrouped = Gs ++ others

    in_Hs : (B : Generation) → Contains others B → Contains Hs B
    in_Hs B two = Contains-permutation (H ∷ others) Hs B (IsPermutation-sym Hs (H ∷ others) aside.order) (Contains-later H B others two)

    far_from : (B : Generation) → Contains others B → AreUntouching H B
    far_from B two = All-contains (AreUntouching H) others B aside.related two

    in_H : (g : Generation) → Contains Gs g → IsSubsetOf g H
    in_H g two = whole_has H Gs make g two

    all_far : AllPairs AreUntouching regrouped
    unfolding regrouped
    all_far =
        AllPairs-append AreUntouching Gs others (untouching_of_splitting H Gs listed) aside.pairs
        (λ g B two three c d h k near. far_from B three c d (in_H g two c h) k near)

    all_make : MakeUp G regrouped
    unfolding regrouped
    all_make = record {
      together = union_of-append Gs others ∙ ap (λ U. union U (union_of others)) make.together
          ∙ sym (union_of-IsPermutation Hs (H ∷ others) aside.order) ∙ are.together;
      once = AllPairs-weaker AreUntouching AreDisjoint disjoint_if_far (Gs ++ others) all_far;
    }

    pub finer_with : AreFiner G Hs regrouped
    unfolding regrouped
    finer_with = record {
      make = all_make;
      islands = whole_if_far G (Gs ++ others) all_make all_far;
      within = λ K two. elim (Contains-append_cases Gs others K two) [
        | inl of_H ↦ (H, one, in_H K of_H)
        | inr other ↦ (K, in_Hs K other, λ c h. h)
      ];
    }

    module _ (x : Cell) (fair : IsFairOf R G Hs x) (finely : IsFairOf R G regrouped x) where
      -- a set that makes the cell that H makes is H
      none_else : (K : Generation) → Contains others K → contains (next R H) x ≡ true → contains (next R K) x ≡ true → ⊥
      none_else K two h k =
          let same : K ≡ H = fair.one K H (in_Hs K two) one k h in
          let c = next_near R K x k in
          disjoint_if_far H K (far_from K two) c.0 (ap (λ J. contains J c.0) (sym same) ∙ c.1) c.1

      none_beside : (g K : Generation) → Contains Gs g → Contains others K → contains (next R g) x ≡ true →
          contains (next R K) x ≡ true → ⊥
      unfolding regrouped
      none_beside g K two three h k =
          let same : g ≡ K =
          finely.one g K (Contains-append_left Gs others g two) (Contains-append_right Gs others K three) h k in
          let c = next_near R g x h in
          disjoint_if_far H K (far_from K three) c.0 (in_H g two c.0 c.1) (ap (λ J. contains J c.0) (sym same) ∙ c.1)

      pub fair_inside : IsFairOf R H Gs x
      unfolding regrouped
      fair_inside = record {
        borne = λ h.
            let K = finely.borne (fair.born H one h) in
            elim (Contains-append_cases Gs others K.0 K.1) [
              | inl of_H ↦ (K.0, of_H, K.2)
              | inr other ↦ absurd (none_else K.0 other h K.2)
            ];
        born = λ g two h.
            let K = fair.borne (finely.born g (Contains-append_left Gs others g two) h) in
            let there = Contains-permutation Hs (H ∷ others) K.0 aside.order K.1 in
            elim (head_or_later H K.0 others there.0 there.1 there.2) [
              | inl same ↦ ap (λ J. contains (next R J) x) same ∙ K.2
              | inr other ↦ absurd (none_beside g K.0 two other h K.2)
            ];
        one = λ A B two three h k.
            finely.one A B (Contains-append_left Gs others A two) (Contains-append_left Gs others B three) h k;
      }
