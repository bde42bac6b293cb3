-- The splittings of a set into groups that don't touch.
use Rattle.std.proofs.Common.{◌≡◌, ℕ, true, List, get_or, sym, ap, subst, ◌∙◌, arith}
use Rattle.std.specs.List.{AllPairs, Contains}
use Rattle.std.proofs.lemmas.List.Elements.{Contains-get_or}
use Rattle.life_model.specs.Cell.{Cell}
use Rattle.life_model.specs.Generation.{Generation, cells, contains}
use Rattle.life_model.proofs.Generations.{cells-rise, from_list-cells}
use Rattle.life_objects.proofs.DecidedLemmas.Kept.{Contains-filter, of_filter}
use Rattle.life_parts.specs.Parts.Groups.{ColoursIslands}
use Rattle.life_parts.specs.Parts.Splittings.{AreUntouching}
use Rattle.life_parts.specs.Independent.Groupings.{are_untouching, groupings_of, splittings}
use Rattle.life_parts.proofs.IndependentLemmas.Added.{AreGroupsOf, IsGrouping, grouping_listed, groups_make_up, listed_grouping}
use Rattle.life_parts.proofs.IndependentLemmas.Coloured.{AreColoured, group_by_colour}
use Rattle.life_objects.proofs.Found.{owned}
use Rattle.life_parts.proofs.IndependentLemmas.Touching.{test_by_untouching, untouching_by_test}

module _ (G : Generation) where
  make_up : (Hs : List Generation) → IsGrouping (cells G) Hs → AreGroupsOf G Hs
  make_up Hs g = subst (λ H. AreGroupsOf H Hs) (from_list-cells G) (groups_make_up (cells G) Hs g (cells-rise G))

  pub groups_of_splitting : (Hs : List Generation) → Contains (splittings G) Hs → AreGroupsOf G Hs
  unfolding splittings
  groups_of_splitting Hs one = make_up Hs (grouping_listed (cells G) Hs (of_filter are_untouching (groupings_of (cells G)) Hs one).0)

  pub untouching_of_splitting : (Hs : List Generation) → Contains (splittings G) Hs → AllPairs AreUntouching Hs
  unfolding splittings
  untouching_of_splitting Hs one = untouching_by_test Hs (of_filter are_untouching (groupings_of (cells G)) Hs one).1

  -- a cell of a group is one of G's
  pub in_whole : (Hs : List Generation) → AreGroupsOf G Hs → (H : Generation) → Contains Hs H → (c : Cell) →
      contains H c ≡ true → contains G c ≡ true
  in_whole Hs are H one c h = ap (λ U. contains U c) (sym are.together) ∙ owned Hs H c one h

  -- the splitting by a colour that islands have
  pub split_by_colour : (colour : Cell → ℕ) → ColoursIslands G colour →
      (Hs : List Generation) × Contains (splittings G) Hs × AreColoured colour Hs
  unfolding splittings
  split_by_colour colour islands =
      let made = group_by_colour colour (cells G) (cells-rise G) in
      let Hs = made.0 in
      let are = make_up Hs made.1 in (
        Hs,
        Contains-filter are_untouching (groupings_of (cells G)) Hs (listed_grouping (cells G) Hs made.1)
            (test_by_untouching Hs (λ i j x less within c d h k near.
            made.2.unlike i j x less within c d h k
            (islands c d (in_whole Hs are (get_or Hs i x) (Contains-get_or Hs i x (omega arith)) c h)
            (in_whole Hs are (get_or Hs j x) (Contains-get_or Hs j x within) d k) near))),
        made.2,
      )
