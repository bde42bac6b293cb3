-- What a failing test says about sets: two of them touch, or not all groups around a place are fair.
use Rattle.std.proofs.Common.{◌≡◌, ℕ, ◌≤◌, ◌⊎◌, Bool, true, false, not, ◌&&◌, ◌||◌, List, [], ◌∷◌, count_by, inl, inr, true≢false, arith}
use Rattle.std.specs.Prelude.{nat_le}
use Rattle.std.specs.List.{AllPairs, Contains, list_all, list_any}
use Rattle.std.proofs.lemmas.Bool.{and_cases, both_ways, cases_Bool, leb-false, not-false, or_parts}
use Rattle.std.proofs.lemmas.List.Elements.{All-contains}
use Rattle.life_model.specs.Cell.{Cell, IsNear}
use Rattle.life_model.specs.Rule.{Rule}
use Rattle.life_model.specs.Generation.{Generation, cells, contains}
use Rattle.life_model.specs.Evolution.{candidates}
use Rattle.life_objects.specs.Apart.{AreDisjoint}
use Rattle.life_objects.proofs.Lists.{AllPairs-head, AllPairs-tail, Contains-head, Contains-later}
use Rattle.life_objects.specs.Decided.Tests.{each_pair}
use Rattle.life_parts.specs.Parts.Apart.{HaveBoth}
use Rattle.life_parts.specs.Parts.Groups.{ColoursIslands, IsAround, IsFair}
use Rattle.life_parts.specs.Parts.Splittings.{AreUntouching}
use Rattle.life_parts.proofs.PartsLemmas.Around.{near_swapped}
use Rattle.life_parts.specs.Independent.Groupings.{are_untouching, splittings, touches}
use Rattle.life_parts.specs.Independent.Held.{are_apart_at, are_held_apart, is_fair, is_fair_within}
use Rattle.life_objects.proofs.Counting.{no_more, one_more, some_counted}
use Rattle.life_parts.proofs.IndependentLemmas.Fair.{fair_by_test, test_by_fair}
use Rattle.life_parts.proofs.IndependentLemmas.Finer.{AreFiner, fair_by_colour, fair_inside, finer_with, islands_coloured, make, regrouped, themselves, within_sets}
use Rattle.life_objects.proofs.Found.{some_passes}
use Rattle.life_parts.proofs.IndependentLemmas.Owners.{owner_place}
use Rattle.life_parts.proofs.IndependentLemmas.Sets.{MakeUp, whole_has}
use Rattle.life_parts.proofs.IndependentLemmas.Touching.{listed_cell, touched, untouching_by_test}

module _ {X : Type 0} where
  pub some_fails : (p : X → Bool) (xs : List X) → list_all p xs ≡ false → (x : X) × Contains xs x × (p x ≡ false)
  some_fails p [] h = absurd (true≢false h)
  some_fails p (x ∷ xs) h =
      elim (and_cases (p x) (list_all p xs) h) [
        | inl here ↦ (x, Contains-head x xs, here)
        | inr later ↦ let q = some_fails p xs later in (q.0, Contains-later x q.0 xs q.1, q.2)
      ]

  module _ (S : X → X → Type 0) where
    -- Two elements, which are related as any two are, and pass the test each, or fail one of both.
    pub record Two (xs : List X) (F : X → X → Type 0) : Type 0 where
      pub first : X
      pub second : X
      pub one : Contains xs first
      pub two : Contains xs second
      pub related : S first second
      pub so : F first second

    later_two : (x : X) (xs : List X) (F : X → X → Type 0) → Two xs F → Two (x ∷ xs) F
    later_two x xs F t = record {
      first = t.first;
      second = t.second;
      one = Contains-later x t.first xs t.one;
      two = Contains-later x t.second xs t.two;
      related = t.related;
      so = t.so;
    }

    head_two : (x y : X) (xs : List X) (F : X → X → Type 0) → AllPairs S (x ∷ xs) → Contains xs y → F x y → Two (x ∷ xs) F
    head_two x y xs F pairs one so = record {
      first = x;
      second = y;
      one = Contains-head x xs;
      two = Contains-later x y xs one;
      related = All-contains (S x) xs y (AllPairs-head S x xs pairs) one;
      so = so;
    }

    pub two_fail : (test : X → X → Bool) (xs : List X) → AllPairs S xs → each_pair test xs ≡ false →
        Two xs (λ x y. test x y ≡ false)
    two_fail test [] pairs h = absurd (true≢false h)
    two_fail test (x ∷ xs) pairs h =
        elim (and_cases (list_all (test x) xs) (each_pair test xs) h) [
          | inl here ↦ let y = some_fails (test x) xs here in head_two x y.0 xs (λ x y. test x y ≡ false) pairs y.1 y.2
          | inr later ↦ later_two x xs (λ x y. test x y ≡ false) (two_fail test xs (AllPairs-tail S x xs pairs) later)
        ]

    pub two_pass : (p : X → Bool) (xs : List X) → AllPairs S xs → 2 ≤ count_by p xs →
        Two xs (λ x y. (p x ≡ true) × (p y ≡ true))
    two_pass p [] pairs h = absurd (omega arith)
    two_pass p (x ∷ xs) pairs h =
        elim (cases_Bool (p x)) [
          | inl passes ↦
              let e = one_more p x xs passes in
              let y = some_counted p xs (omega arith) in
              head_two x y.0 xs (λ x y. (p x ≡ true) × (p y ≡ true)) pairs y.1 (passes, y.2)
          | inr fails ↦
              let e = no_more p x xs fails in
              later_two x xs (λ x y. (p x ≡ true) × (p y ≡ true)) (two_pass p xs (AllPairs-tail S x xs pairs) (omega arith))
        ]

-- Two cells that touch are not of one set.
pub record AreTorn (G : Generation) (Hs : List Generation) : Type 0 where
  pub cell : Cell
  pub other : Cell
  pub live : contains G cell ≡ true
  pub too : contains G other ≡ true
  pub near : IsNear cell other
  pub parted : HaveBoth Hs cell other → ⊥

-- Around a place, where not all is of one set, some groups, each of one set, are not fair.
pub record AreUnfair (R : Rule) (G : Generation) (Hs : List Generation) : Type 0 where
  pub place : Cell
  pub dead : contains G place ≡ false
  pub colour : Cell → ℕ
  pub islands : ColoursIslands G colour
  pub within : (c d : Cell) → IsAround G place c → IsAround G place d → colour c ≡ colour d → HaveBoth Hs c d
  pub unfair : IsFair R G colour place → ⊥
  pub cell : Cell
  pub other : Cell
  pub at : IsAround G place cell
  pub too : IsAround G place other
  pub parted : HaveBoth Hs cell other → ⊥

module _ (R : Rule) (G : Generation) (Hs : List Generation) (are : MakeUp G Hs) where
  pub not_both : (A B : Generation) → Contains Hs A → AreDisjoint A B → (c d : Cell) → contains A c ≡ true →
      contains B d ≡ true → HaveBoth Hs c d → ⊥
  not_both A B one none c d h k both = none d (both A one h) k

  torn : are_untouching Hs ≡ false → AreTorn G Hs
  unfolding are_untouching
  torn h =
      let t = two_fail AreDisjoint (λ A B. not (list_any (λ c. touches c B) (cells A))) Hs are.once h in
      let A = t.first in
      let B = t.second in
      let c = some_passes (λ c. touches c B) (cells A) (not-false (list_any (λ c. touches c B) (cells A)) t.so) in
      let in_A = listed_cell A c.0 c.1 in
      let d = touched B c.0 c.2 in
      record {
        cell = c.0;
        other = d.0;
        live = whole_has G Hs are A t.one c.0 in_A;
        too = whole_has G Hs are B t.two d.0 d.1;
        near = d.2;
        parted = not_both A B t.one t.related c.0 d.0 in_A d.1;
      }

  module _ (far : AllPairs AreUntouching Hs) (x : Cell) (place : contains G x ≡ false) where
    abbrev few : Bool
    few = nat_le (count_by (touches x) Hs) 1

    -- where finer sets are not fair, the sets around the place are not
    unfair_by : (Ks : List Generation) (finer : AreFiner G Hs Ks) → (IsFair R G (owner_place Ks) x → ⊥) → few ≡ false →
        AreUnfair R G Hs
    unfair_by Ks finer unfair many =
        let more = leb-false (count_by (touches x) Hs) 1 many in
        let t = two_pass AreDisjoint (touches x) Hs are.once (omega arith) in
        let c = touched t.first x t.so.0 in
        let d = touched t.second x t.so.1 in
        record {
          place = x;
          dead = place;
          colour = owner_place Ks;
          islands = islands_coloured R G Hs are x place Ks finer;
          within = within_sets R G Hs are x place Ks finer;
          unfair = unfair;
          cell = c.0;
          other = d.0;
          at = record { live = whole_has G Hs are t.first t.one c.0 c.1; near = near_swapped x c.0 c.2 };
          too = record { live = whole_has G Hs are t.second t.two d.0 d.1; near = near_swapped x d.0 d.2 };
          parted = not_both t.first t.second t.one t.related c.0 d.0 c.1 d.1;
        }

    not_fair : is_fair R G Hs x ≡ false → few ≡ false → AreUnfair R G Hs
    not_fair h many =
        let finer = themselves R G Hs are far in
        unfair_by Hs finer (λ f.
        both_ways (is_fair R G Hs x) h (test_by_fair R G Hs x are.once (fair_by_colour R G Hs are x place Hs finer f))) many

    not_fair_within : is_fair R G Hs x ≡ true → list_all (is_fair_within R x) Hs ≡ false → few ≡ false → AreUnfair R G Hs
    unfolding is_fair_within
    not_fair_within fair h many =
        let H = some_fails (is_fair_within R x) Hs h in
        let Gs = some_fails (λ groups. is_fair R H.0 groups x) (splittings H.0) H.2 in
        let Ks = regrouped R G Hs are far H.0 H.1 Gs.0 Gs.1 in
        let finer = finer_with R G Hs are far H.0 H.1 Gs.0 Gs.1 in
        unfair_by Ks finer (λ f.
        both_ways (is_fair R H.0 Gs.0 x) Gs.2
        (test_by_fair R H.0 Gs.0 x (make R G Hs are far H.0 H.1 Gs.0 Gs.1).once
        (fair_inside R G Hs are far H.0 H.1 Gs.0 Gs.1 x (fair_by_test R G Hs x fair)
        (fair_by_colour R G Hs are x place Ks finer f)))) many

    not_apart : are_apart_at R G Hs x ≡ false → AreUnfair R G Hs
    unfolding are_apart_at
    not_apart h =
        let parts = or_parts few (is_fair R G Hs x && list_all (is_fair_within R x) Hs) h in
        elim (cases_Bool (is_fair R G Hs x)) [
          | inl fair ↦ elim (and_cases (is_fair R G Hs x) (list_all (is_fair_within R x) Hs) parts.1) [
            | inl unfair ↦ not_fair unfair parts.0
            | inr rest ↦ not_fair_within fair rest parts.0
          ]
          | inr unfair ↦ not_fair unfair parts.0
        ]

  pub failing : are_held_apart R G Hs ≡ false → AreTorn G Hs ⊎ AreUnfair R G Hs
  unfolding are_held_apart
  failing h =
      elim (cases_Bool (are_untouching Hs)) [
        | inl apart ↦ elim (and_cases (are_untouching Hs) (list_all (λ x. contains G x || are_apart_at R G Hs x) (candidates G)) h) [
          | inl touching ↦ inl (torn touching)
          | inr rest ↦
              let x = some_fails (λ x. contains G x || are_apart_at R G Hs x) (candidates G) rest in
              let parts = or_parts (contains G x.0) (are_apart_at R G Hs x.0) x.2 in
              inr (not_apart (untouching_by_test Hs apart) x.0 parts.0 parts.1)
        ]
        | inr touching ↦ inl (torn touching)
      ]
