-- Sets that are held apart pass the test.
use Rattle.std.proofs.Common.{◌≡◌, ◌<◌, true, false, ◌&&◌, ◌||◌, List, count_by, get_or, length, inl, inr, arith}
use Rattle.std.specs.Prelude.{nat_le}
use Rattle.std.specs.List.{AllPairs, Contains, list_all}
use Rattle.std.proofs.lemmas.Bool.{and_from, cases_Bool, le-leb, or_left, or_right}
use Rattle.std.proofs.lemmas.List.Elements.{Contains-get_or}
use Rattle.life_model.specs.Cell.{Cell}
use Rattle.life_model.specs.Rule.{Rule}
use Rattle.life_model.specs.Generation.{Generation, contains}
use Rattle.life_model.specs.Evolution.{candidates}
use Rattle.life_parts.specs.Parts.Apart.{AreHeldApart, IsEachFair}
use Rattle.life_parts.specs.Parts.Splittings.{AreUntouching}
use Rattle.life_parts.specs.Independent.Groupings.{are_untouching, splittings, touches}
use Rattle.life_parts.specs.Independent.Held.{are_apart_at, are_held_apart, is_fair, is_fair_within}
use Rattle.life_parts.proofs.IndependentLemmas.Fair.{IsFairOf, test_by_fair}
use Rattle.life_parts.proofs.IndependentLemmas.Finer.{AreFiner, fair_by_colour, fair_inside, finer_with, islands_coloured, make, regrouped, themselves, within_sets}
use Rattle.life_objects.proofs.Found.{all_pass}
use Rattle.life_parts.proofs.IndependentLemmas.Owners.{owner_place}
use Rattle.life_parts.proofs.IndependentLemmas.Sets.{MakeUp, whole_has}
use Rattle.life_parts.proofs.IndependentLemmas.Telling.{few_touch}
use Rattle.life_parts.proofs.IndependentLemmas.Touching.{test_by_untouching}

module _ (R : Rule) (G : Generation) (Hs : List Generation) (are : MakeUp G Hs) (held : AreHeldApart R G Hs) where
  untouching : AllPairs AreUntouching Hs
  untouching i j d less within c e h k near =
      let A = get_or Hs i d in
      let one = Contains-get_or Hs i d (let l : i < length Hs = omega arith in l) in
      let two = Contains-get_or Hs j d within in
      are.once i j d less within e
      (held.islands c e (whole_has G Hs are A one c h) (whole_has G Hs are (get_or Hs j d) two e k) near A one h) k

  module _ (x : Cell) (place : contains G x ≡ false) where
    module _ (each : IsEachFair R G Hs x) where
      fair_of : (Ks : List Generation) → AreFiner G Hs Ks → IsFairOf R G Ks x
      fair_of Ks finer =
          fair_by_colour R G Hs are x place Ks finer
          (each (owner_place Ks) (islands_coloured R G Hs are x place Ks finer) (within_sets R G Hs are x place Ks finer)).0

      fair : IsFairOf R G Hs x
      fair = fair_of Hs (themselves R G Hs are untouching)

      fair_within : (H : Generation) → Contains Hs H → is_fair_within R x H ≡ true
      unfolding is_fair_within
      fair_within H one =
          all_pass (λ groups. is_fair R H groups x) (splittings H) (λ Gs listed.
          test_by_fair R H Gs x (make R G Hs are untouching H one Gs listed).once
          (fair_inside R G Hs are untouching H one Gs listed x fair
          (fair_of (regrouped R G Hs are untouching H one Gs listed) (finer_with R G Hs are untouching H one Gs listed))))

    apart_here : are_apart_at R G Hs x ≡ true
    unfolding are_apart_at
    apart_here =
        elim (held.places x place) [
          | inl whole ↦
              or_left (nat_le (count_by (touches x) Hs) 1) (is_fair R G Hs x && list_all (is_fair_within R x) Hs)
              (le-leb (count_by (touches x) Hs) 1 (few_touch R G Hs are x whole))
          | inr each ↦
              or_right (nat_le (count_by (touches x) Hs) 1) (is_fair R G Hs x && list_all (is_fair_within R x) Hs)
              (and_from (is_fair R G Hs x) (list_all (is_fair_within R x) Hs) (test_by_fair R G Hs x are.once (fair each))
              (all_pass (is_fair_within R x) Hs (fair_within each)))
        ]

  passes_at : (x : Cell) → (contains G x || are_apart_at R G Hs x) ≡ true
  passes_at x =
      elim (cases_Bool (contains G x)) [
        | inl here ↦ or_left (contains G x) (are_apart_at R G Hs x) here
        | inr place ↦ or_right (contains G x) (are_apart_at R G Hs x) (apart_here x place)
      ]

  pub test_by_held : are_held_apart R G Hs ≡ true
  unfolding are_held_apart
  test_by_held =
      and_from (are_untouching Hs) (list_all (λ x. contains G x || are_apart_at R G Hs x) (candidates G))
      (test_by_untouching Hs untouching)
      (all_pass (λ x. contains G x || are_apart_at R G Hs x) (candidates G) (λ x one. passes_at x))
