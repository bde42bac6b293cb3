-- Sets that pass the test are held apart.
use Rattle.std.proofs.Common.{◌≡◌, ℕ, ◌<◌, ◌≤◌, ◌⊎◌, Bool, true, false, ◌&&◌, ◌||◌, List, count_by, get_or, length, inl, inr, sym, ap, ◌∙◌, arith}
use Rattle.std.specs.Prelude.{nat_le}
use Rattle.std.specs.Cmp as cmp
use Rattle.std.specs.List.{Contains, list_all}
use Rattle.std.proofs.lemmas.Bool.{and_parts, both_ways, cases_Bool, false_from_ne_true, leb-true, or_cases}
use Rattle.std.proofs.lemmas.List.Elements.{Contains-get_or}
use Rattle.life_model.specs.Cell.{Cell, IsNear}
use Rattle.life_model.specs.Rule.{Rule, born}
use Rattle.life_model.specs.Generation.{Generation, contains}
use Rattle.life_model.specs.Evolution.{candidates, next}
use Rattle.life_model.proofs.Near.{next_near}
use Rattle.life_parts.specs.Parts.Apart.{AreHeldApart, AreOfOneSet, HaveBoth, IsEachFair}
use Rattle.life_parts.specs.Parts.Groups.{ColoursIslands, IsAround, IsFair, bears, in_group}
use Rattle.life_parts.proofs.PartsLemmas.Around.{count_at-alike, near_swapped, next-born}
use Rattle.life_parts.proofs.PartsLemmas.Classed.{of_bearing, of_group, to_group}
use Rattle.life_parts.specs.Independent.Groupings.{are_untouching, splittings, touches}
use Rattle.life_parts.specs.Independent.Held.{are_apart_at, are_held_apart, is_fair, is_fair_within}
use Rattle.life_parts.proofs.IndependentLemmas.Beside.{candidate}
use Rattle.life_parts.proofs.IndependentLemmas.Coloured.{AreColoured, one_colour, one_group}
use Rattle.life_objects.proofs.Counting.{few_counted, one_counted}
use Rattle.life_parts.proofs.IndependentLemmas.Fair.{IsFairOf, fair_by_test}
use Rattle.life_parts.proofs.IndependentLemmas.Finer.{whole_if_far}
use Rattle.life_objects.proofs.Found.{each_passes}
use Rattle.life_parts.proofs.IndependentLemmas.Sets.{MakeUp, both_of, groups_make, owner_of, whole_has}
use Rattle.life_parts.proofs.IndependentLemmas.Split.{groups_of_splitting, split_by_colour}
use Rattle.life_parts.proofs.IndependentLemmas.Touching.{touched, touches_by_near, untouching_by_test}

module _ (R : Rule) (G : Generation) (Hs : List Generation) (are : MakeUp G Hs) (x : Cell) (place : contains G x ≡ false)
    (fair : IsFairOf R G Hs x)
    (each : (H : Generation) → Contains Hs H → (Gs : List Generation) → Contains (splittings H) Gs → IsFairOf R H Gs x)
    (colour : Cell → ℕ) (islands : ColoursIslands G colour)
    (within : (c d : Cell) → IsAround G x c → IsAround G x d → colour c ≡ colour d → HaveBoth Hs c d) where
  -- the groups of a set, by colour
  pub record HasGroups (H : Generation) : Type 0 where
    pub groups : List Generation
    pub make : MakeUp H groups
    pub coloured : AreColoured colour groups
    pub fairly : IsFairOf R H groups x

  groups_of : (H : Generation) → Contains Hs H → HasGroups H
  groups_of H one =
      let s = split_by_colour H colour (λ c d h k near. islands c d (whole_has G Hs are H one c h) (whole_has G Hs are H one d k) near) in
      record {
        groups = s.0;
        make = groups_make H s.0 (groups_of_splitting H s.0 s.1);
        coloured = s.2;
        fairly = each H one s.0 s.1;
      }

  module _ (H : Generation) (one : Contains Hs H) (has : HasGroups H) where
    in_G : (g : Generation) → Contains has.groups g → (c : Cell) → contains g c ≡ true → contains G c ≡ true
    in_G g listed c h = whole_has G Hs are H one c (whole_has H has.groups has.make g listed c h)

    around_by : (g : Generation) → Contains has.groups g → (c : Cell) → contains g c ≡ true → IsNear c x → IsAround G x c
    around_by g listed c h near = record { live = in_G g listed c h; near = near }

    not_here : (g : Generation) → Contains has.groups g → contains g x ≡ false
    not_here g listed = false_from_ne_true (contains g x) (λ h. both_ways (contains G x) place (in_G g listed x h))

    -- what a colour bears is what the group of that colour does
    pub group_bears : (g : Generation) → Contains has.groups g → (c : Cell) → contains g c ≡ true → IsNear c x →
        bears R G colour (colour c) x ≡ contains (next R g) x
    group_bears g listed c in_g near =
        let at = around_by g listed c in_g near in
        ap (born R) (count_at-alike (in_group G colour (colour c)) (contains g) x (λ y close.
        cmp.both_ways (in_group G colour (colour c) y) (contains g y)
        (λ k.
        let b = of_group G colour (colour c) y k in
        let in_H : contains H y ≡ true =
        within c y at (record { live = b.0; near = close }) (sym b.1) H one (whole_has H has.groups has.make g listed c in_g) in
        let e = owner_of H has.groups has.make y in_H in
        let same : e.0 ≡ g = one_group colour has.groups has.coloured e.0 g e.1 listed y c e.2 in_g b.1 in
        ap (λ J. contains J y) (sym same) ∙ e.2)
        (λ k. to_group G colour (colour c) y (in_G g listed y k) (one_colour colour has.groups has.coloured g listed y c k in_g))))
        ∙ sym (next-born R g x (not_here g listed))

    -- of a colour that bears, the group
    pub bearing_group : (c : Cell) → contains H c ≡ true → IsNear c x → bears R G colour (colour c) x ≡ true →
        (g : Generation) × Contains has.groups g × (contains g c ≡ true) × (contains (next R g) x ≡ true)
    bearing_group c h near bearing =
        let g = owner_of H has.groups has.make c h in
        (g.0, g.1, g.2, sym (group_bears g.0 g.1 c g.2 near) ∙ bearing)

    pub bearing_set : (c : Cell) → contains H c ≡ true → IsNear c x → bears R G colour (colour c) x ≡ true →
        contains (next R H) x ≡ true
    bearing_set c h near bearing =
        let g = bearing_group c h near bearing in
        has.fairly.born g.0 g.1 g.3

    -- cells of a set whose colours bear have one colour
    pub one_bearer : (c e : Cell) → contains H c ≡ true → contains H e ≡ true → IsNear c x → IsNear e x →
        bears R G colour (colour c) x ≡ true → bears R G colour (colour e) x ≡ true → colour c ≡ colour e
    one_bearer c e h k near close first second =
        let g = bearing_group c h near first in
        let f = bearing_group e k close second in
        let same : g.0 ≡ f.0 = has.fairly.one g.0 f.0 g.1 f.1 g.3 f.3 in
        one_colour colour has.groups has.coloured g.0 g.1 c e g.2 (ap (λ J. contains J e) same ∙ f.2)

  -- a colour that bears is that of a cell around, whose set makes a cell here
  bearer : (k : ℕ) → bears R G colour k x ≡ true →
      (c : Cell) × IsAround G x c × (colour c ≡ k) × (bears R G colour (colour c) x ≡ true)
  bearer k h =
      let s = of_bearing R G colour x k h in
      (s.0, s.1, s.2, ap (λ l. bears R G colour l x) s.2 ∙ h)

  pub fairly_coloured : IsFair R G colour x
  fairly_coloured = record {
    borne = λ h.
        let H = fair.borne h in
        let has = groups_of H.0 H.1 in
        let g = has.fairly.borne H.2 in
        let c = next_near R g.0 x g.2 in
        (colour c.0, group_bears H.0 H.1 has g.0 g.1 c.0 c.1 (near_swapped x c.0 c.2) ∙ g.2);
    born = λ k h.
        let c = bearer k h in
        let H = owner_of G Hs are c.0 c.1.live in
        fair.born H.0 H.1 (bearing_set H.0 H.1 (groups_of H.0 H.1) c.0 H.2 c.1.near c.3);
    one = λ k l h m.
        let c = bearer k h in
        let e = bearer l m in
        let A = owner_of G Hs are c.0 c.1.live in
        let B = owner_of G Hs are e.0 e.1.live in
        let has = groups_of A.0 A.1 in
        let same : B.0 ≡ A.0 =
        fair.one B.0 A.0 B.1 A.1 (bearing_set B.0 B.1 (groups_of B.0 B.1) e.0 B.2 e.1.near e.3)
        (bearing_set A.0 A.1 has c.0 A.2 c.1.near c.3) in
        let too : contains A.0 e.0 ≡ true = ap (λ J. contains J e.0) (sym same) ∙ B.2 in
        sym c.2 ∙ one_bearer A.0 A.1 has c.0 e.0 A.2 too c.1.near e.1.near c.3 e.3 ∙ e.2;
  }

  pub born_of_set : (c : Cell) → IsAround G x c → bears R G colour (colour c) x ≡ true → (H : Generation) → Contains Hs H →
      contains H c ≡ true → contains (next R H) x ≡ true
  born_of_set c at bearing H one h = bearing_set H one (groups_of H one) c h at.near bearing

module _ (R : Rule) (G : Generation) (Hs : List Generation) (are : MakeUp G Hs) where
  abbrev few_at : Cell → Bool
  few_at x = nat_le (count_by (touches x) Hs) 1

  abbrev fair_at : Cell → Bool
  fair_at x = is_fair R G Hs x && list_all (is_fair_within R x) Hs

  abbrev tested : Cell → Bool
  tested x = contains G x || are_apart_at R G Hs x

  fair_within : (x : Cell) → list_all (is_fair_within R x) Hs ≡ true → (H : Generation) → Contains Hs H →
      (Gs : List Generation) → Contains (splittings H) Gs → IsFairOf R H Gs x
  unfolding is_fair_within
  fair_within x h H one Gs listed =
      fair_by_test R H Gs x
      (each_passes (λ groups. is_fair R H groups x) (splittings H) (each_passes (is_fair_within R x) Hs h H one) Gs listed)

  pub one_set : (x : Cell) → count_by (touches x) Hs ≤ 1 → AreOfOneSet G Hs x
  one_set x few c d at too =
      let A = owner_of G Hs are c at.live in
      let B = owner_of G Hs are d too.live in
      let same : B.0 ≡ A.0 =
      one_counted (touches x) Hs few B.0 A.0 B.1 A.1 (touches_by_near B.0 x d B.2 (near_swapped d x too.near))
      (touches_by_near A.0 x c A.2 (near_swapped c x at.near)) in
      both_of G Hs are A.0 A.1 c d A.2 (ap (λ H. contains H d) (sym same) ∙ B.2)

  pub few_touch : (x : Cell) → AreOfOneSet G Hs x → count_by (touches x) Hs ≤ 1
  few_touch x whole =
      few_counted (touches x) Hs (λ i j d less within h k.
      let A = get_or Hs i d in
      let B = get_or Hs j d in
      let one = Contains-get_or Hs i d (let l : i < length Hs = omega arith in l) in
      let two = Contains-get_or Hs j d within in
      let a = touched A x h in
      let b = touched B x k in
      are.once i j d less within b.0
      (whole a.0 b.0 (record { live = whole_has G Hs are A one a.0 a.1; near = near_swapped x a.0 a.2 })
      (record { live = whole_has G Hs are B two b.0 b.1; near = near_swapped x b.0 b.2 }) A one a.1) b.1)

  module _ (x : Cell) (place : contains G x ≡ false) where
    apart_there : (c : Cell) → contains G c ≡ true → IsNear c x → list_all tested (candidates G) ≡ true →
        are_apart_at R G Hs x ≡ true
    apart_there c live near h =
        elim (or_cases (contains G x) (are_apart_at R G Hs x) (each_passes tested (candidates G) h x (candidate G x c live near))) [
          | inl here ↦ absurd (both_ways (contains G x) place here)
          | inr apart ↦ apart
        ]

    one_or_fair : are_apart_at R G Hs x ≡ true → AreOfOneSet G Hs x ⊎ IsEachFair R G Hs x
    unfolding are_apart_at
    one_or_fair h =
        elim (or_cases (few_at x) (fair_at x) h) [
          | inl few ↦ inl (one_set x (leb-true (count_by (touches x) Hs) 1 few))
          | inr both ↦
              let parts = and_parts (is_fair R G Hs x) (list_all (is_fair_within R x) Hs) both in
              let fair = fair_by_test R G Hs x parts.0 in
              let each = fair_within x parts.1 in
              inr (λ colour islands within. (
                fairly_coloured R G Hs are x place fair each colour islands within,
                born_of_set R G Hs are x place fair each colour islands within,
              ))
        ]

    at_place : list_all tested (candidates G) ≡ true → AreOfOneSet G Hs x ⊎ IsEachFair R G Hs x
    at_place h =
        elim (cases_Bool (are_apart_at R G Hs x)) [
          | inl apart ↦ one_or_fair apart
          | inr fails ↦ inl (λ c d at too.
              absurd (both_ways (are_apart_at R G Hs x) fails (apart_there c at.live at.near h)))
        ]

  pub held_by_test : are_held_apart R G Hs ≡ true → AreHeldApart R G Hs
  unfolding are_held_apart
  held_by_test h =
      let parts = and_parts (are_untouching Hs) (list_all tested (candidates G)) h in
      record { islands = whole_if_far G Hs are (untouching_by_test Hs parts.0); places = λ x place. at_place x place parts.1 }
