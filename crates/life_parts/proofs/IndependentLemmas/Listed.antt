-- Each splitting of a set is listed, in some order.
use Rattle.std.proofs.Common.{◌≡◌, ◌≢◌, true, List, sym, ap, subst, ◌∙◌}
use Rattle.std.specs.Cmp as cmp
use Rattle.std.specs.List.{AllPairs, Contains}
use Rattle.std.specs.List.Sorted.{IsPermutation}
use Rattle.std.proofs.lemmas.List.Elements.{All-contains}
use Rattle.life_model.specs.Cell.{Cell}
use Rattle.life_model.specs.Generation.{Generation, contains, empty}
use Rattle.life_model.proofs.Generations.{same_members}
use Rattle.life_objects.proofs.Lists.{same_elements}
use Rattle.life_parts.specs.Parts.Groups.{ColoursIslands}
use Rattle.life_parts.specs.Parts.Splittings.{AreUntouching}
use Rattle.life_parts.proofs.PartsLemmas.Lists.{some_cell}
use Rattle.life_parts.specs.Independent.Groupings.{splittings}
use Rattle.life_parts.proofs.IndependentLemmas.Added.{AreGroupsOf}
use Rattle.life_parts.proofs.IndependentLemmas.Coloured.{AreColoured, one_colour, one_group}
use Rattle.life_parts.proofs.IndependentLemmas.Finer.{whole_if_far}
use Rattle.life_parts.proofs.IndependentLemmas.Owners.{of_place, one_place, owner_place}
use Rattle.life_parts.proofs.IndependentLemmas.Sets.{MakeUp, groups_differ, groups_make, moved_over, owner_of, whole_has}
use Rattle.life_parts.proofs.IndependentLemmas.Split.{groups_of_splitting, split_by_colour}

module _ (G : Generation) (Qs : List Generation) (are : AreGroupsOf G Qs) (far : AllPairs AreUntouching Qs) where
  abbrev make : MakeUp G Qs
  make = groups_make G Qs are

  islands : ColoursIslands G (owner_place Qs)
  islands c d h k near =
      let A = owner_of G Qs make c h in
      one_place G Qs make A.0 A.1 c d A.2 (whole_if_far G Qs make far c d h k near A.0 A.1 A.2)

  -- a splitting by the same colours has the same sets
  module _ (Hs : List Generation) (groups : AreGroupsOf G Hs) (coloured : AreColoured (owner_place Qs) Hs) where
    abbrev too : MakeUp G Hs
    too = groups_make G Hs groups

    same_set : (H Q : Generation) → Contains Hs H → Contains Qs Q → (a : Cell) → contains H a ≡ true →
        contains Q a ≡ true → Q ≡ H
    same_set H Q one two a in_H in_Q = same_members Q H (λ y.
        cmp.both_ways (contains Q y) (contains H y)
        (λ h.
        let J = owner_of G Hs too y (whole_has G Qs make Q two y h) in
        let same : J.0 ≡ H =
        one_group (owner_place Qs) Hs coloured J.0 H J.1 one y a J.2 in_H (one_place G Qs make Q two y a h in_Q) in
        ap (λ K. contains K y) (sym same) ∙ J.2)
        (λ h.
        let K = of_place G Qs make a y (whole_has G Hs too H one a in_H) (whole_has G Hs too H one y h)
        (one_colour (owner_place Qs) Hs coloured H one a y in_H h) in
        moved_over G Qs make K.0 Q K.1 two a K.2 in_Q y K.3))

    to_Qs : (H : Generation) → Contains Hs H → Contains Qs H
    to_Qs H one =
        let a = some_cell H (All-contains (λ K. K ≢ empty) Hs H groups.some one) in
        let Q = owner_of G Qs make a.0 (whole_has G Hs too H one a.0 a.1) in
        subst (Contains Qs) (same_set H Q.0 one Q.1 a.0 a.1 Q.2) Q.1

    to_Hs : (Q : Generation) → Contains Qs Q → Contains Hs Q
    to_Hs Q one =
        let a = some_cell Q (All-contains (λ K. K ≢ empty) Qs Q are.some one) in
        let H = owner_of G Hs too a.0 (whole_has G Qs make Q one a.0 a.1) in
        subst (Contains Hs) (sym (same_set H.0 Q H.1 one a.0 H.2 a.1)) H.1

    same_sets : IsPermutation Hs Qs
    same_sets = same_elements Hs Qs (groups_differ G Hs groups) (groups_differ G Qs are) to_Qs to_Hs

  pub listed : (Hs : List Generation) × Contains (splittings G) Hs × IsPermutation Hs Qs
  listed =
      let s = split_by_colour G (owner_place Qs) islands in
      (s.0, s.1, same_sets s.0 (groups_of_splitting G s.0 s.1) s.2)
