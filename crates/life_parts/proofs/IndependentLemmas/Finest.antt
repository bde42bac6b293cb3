-- The first of the longest splittings that pass the test is the independent parts.
use Rattle.std.proofs.Common.{◌≡◌, ◌≢◌, ℕ, ◌<◌, Bool, true, List, filter, get_or, length, ap, subst, ◌∙◌, arith}
use Rattle.std.specs.Cmp as cmp
use Rattle.std.specs.List.{AllPairs, Contains}
use Rattle.std.specs.List.Sorted.{IsPermutation}
use Rattle.std.proofs.lemmas.List.Elements.{All-contains, Contains-get_or}
use Rattle.life_model.specs.Cell.{Cell}
use Rattle.std.proofs.lemmas.List.Sorted.{Contains-permutation}
use Rattle.life_model.specs.Rule.{Rule}
use Rattle.life_model.specs.Generation.{Generation, contains, empty}
use Rattle.life_model.specs.Evolution.{generation}
use Rattle.life_model.specs.Recurrence.{RecursBy}
use Rattle.life_model.proofs.Generations.{same_members}
use Rattle.life_objects.specs.Ash.{RecursWithin}
use Rattle.life_objects.specs.Union.{IsSubsetOf, generations}
use Rattle.life_objects.proofs.Recurring.{RecursBy-later}
use Rattle.life_objects.specs.Decided.Parts.{corner_offset, period}
use Rattle.life_objects.proofs.DecidedLemmas.Kept.{Contains-filter, of_filter}
use Rattle.life_objects.proofs.DecidedLemmas.Periods.{period_found, recurs}
use Rattle.life_parts.specs.Parts.Splittings.{AreUntouching}
use Rattle.life_parts.specs.Parts.Parts.{AreIndependentParts}
use Rattle.life_parts.specs.Parts.Ties.{touching}
use Rattle.life_parts.proofs.PartsLemmas.Evolving.{at_first, part_of}
use Rattle.life_parts.proofs.PartsLemmas.Lists.{later_parts, one_list, some_cell}
use Rattle.life_parts.specs.Independent.Groupings.{splittings}
use Rattle.life_parts.specs.Independent.Held.{are_held_apart_through}
use Rattle.life_parts.specs.Independent.Independent.{independent_parts_of, longest}
use Rattle.life_parts.proofs.IndependentLemmas.Added.{AreGroupsOf}
use Rattle.life_parts.proofs.IndependentLemmas.Existing.{parts_exist}
use Rattle.life_parts.proofs.IndependentLemmas.Fewer.{just_one}
use Rattle.life_parts.proofs.IndependentLemmas.Listed.{listed}
use Rattle.life_parts.proofs.IndependentLemmas.Longest.{longest_listed, none_longer}
use Rattle.life_parts.proofs.IndependentLemmas.Parts.{parts_pass_through}
use Rattle.life_parts.proofs.IndependentLemmas.Periods.{one_period, period-least}
use Rattle.life_parts.proofs.IndependentLemmas.Sets.{MakeUp, groups_differ, groups_make, owner_of, sharing, whole_has}
use Rattle.life_parts.proofs.IndependentLemmas.Split.{groups_of_splitting}
use Rattle.life_parts.proofs.IndependentLemmas.Through.{tied_of_one}

module _ (R : Rule) (P : Generation) (Qs : List Generation) (are : AreIndependentParts R P Qs) where
  parts_make : MakeUp P Qs
  parts_make = record { together = are.together; once = are.once }

  parts_groups : AreGroupsOf P Qs
  parts_groups = record { together = are.together; once = are.once; some = λ i d h. (are.parts i d h).nonempty }

  parts_far : AllPairs AreUntouching Qs
  parts_far i j x less within c e h k near =
      let A = get_or Qs i x in
      let B = get_or Qs j x in
      let a = part_of R P Qs are A (Contains-get_or Qs i x (let l : i < length Qs = omega arith in l)) in
      let b = part_of R P Qs are B (Contains-get_or Qs j x within) in
      are.once i j x less within e
      (a.whole c e h (touching 0 c e (at_first R P c (a.within c h)) (at_first R P e (b.within e k)) near)) k

  -- a splitting whose sets are parts is the parts
  parts_of_splitting : (Hs : List Generation) → AreGroupsOf P Hs → ((H : Generation) → Contains Hs H → Contains Qs H) →
      AreIndependentParts R P Hs
  parts_of_splitting Hs groups each = record {
    together = groups.together;
    parts = λ i d h. part_of R P Qs are (get_or Hs i d) (each (get_or Hs i d) (Contains-get_or Hs i d h));
    once = groups.once;
  }

  -- the parts, in the order of some splitting
  listed_parts : (Hs : List Generation) × Contains (splittings P) Hs × AreIndependentParts R P Hs
  listed_parts =
      let l = listed P Qs parts_groups parts_far in (
        l.0,
        l.1,
        parts_of_splitting l.0 (groups_of_splitting P l.0 l.1) (λ H one. Contains-permutation l.0 Qs H l.2 one),
      )

module _ (R : Rule) (b : ℕ) (P : Generation) (within : RecursWithin R b P) where
  abbrev p : ℕ
  p = period R b P

  abbrev d : Cell
  d = corner_offset R P p

  r : RecursBy R P p d
  r = recurs R P b (period_found R P b within)

  abbrev passes : List Generation → Bool
  passes = are_held_apart_through R P p d

  abbrev held : List (List Generation)
  held = filter passes (splittings P)

  abbrev found : List Generation
  found = longest held

  module _ (Qs : List Generation) (listed : Contains (splittings P) Qs) (are : AreIndependentParts R P Qs) where
    parts_listed : Contains held Qs
    parts_listed = Contains-filter passes (splittings P) Qs listed (parts_pass_through R P Qs are p d r)

    among : Contains (splittings P) found × (passes found ≡ true)
    among = of_filter passes (splittings P) found (longest_listed held Qs parts_listed)

    groups : AreGroupsOf P found
    groups = groups_of_splitting P found among.0

    make : MakeUp P found
    make = groups_make P found groups

    -- a part with a cell of a set is within it
    inside : (H : Generation) → Contains found H → (Q : Generation) → Contains Qs Q → (c : Cell) → contains H c ≡ true →
        contains Q c ≡ true → IsSubsetOf Q H
    inside H one Q two c h k e l =
        tied_of_one R P found groups p d among.1 r (λ n f s. period-least R P b n f s) c e
        ((part_of R P Qs are Q two).tied c e k l) H one h

    a_part : (H : Generation) → Contains found H → (Q : Generation) × Contains Qs Q × IsSubsetOf Q H
    a_part H one =
        let a = some_cell H (All-contains (λ K. K ≢ empty) found H groups.some one) in
        let Q = owner_of P Qs (parts_make R P Qs are) a.0 (whole_has P found make H one a.0 a.1) in
        (Q.0, Q.1, inside H one Q.0 Q.1 a.0 a.1 Q.2)

    one_whole : (A B Q : Generation) → Contains found A → Contains found B → Contains Qs Q → IsSubsetOf Q A →
        IsSubsetOf Q B → A ≡ B
    one_whole A B Q one two part first second =
        let a = some_cell Q (part_of R P Qs are Q part).nonempty in
        sharing P found make A B one two a.0 (first a.0 a.1) (second a.0 a.1)

    just_part : (H Q A : Generation) → Contains found H → Contains Qs Q → Contains Qs A → IsSubsetOf Q H →
        IsSubsetOf A H → Q ≡ A
    just_part H Q A one part other =
        just_one (λ H Q. IsSubsetOf Q H) found Qs (groups_differ P found groups) a_part one_whole
        (none_longer held Qs parts_listed) H Q A one part other

    each_is_part : (H : Generation) → Contains found H → Contains Qs H
    each_is_part H one =
        let Q = a_part H one in
        subst (Contains Qs) (same_members Q.0 H (λ y.
        cmp.both_ways (contains Q.0 y) (contains H y) (Q.2 y)
        (λ h.
        let A = owner_of P Qs (parts_make R P Qs are) y (whole_has P found make H one y h) in
        let same : Q.0 ≡ A.0 = just_part H Q.0 A.0 one Q.1 A.1 Q.2 (inside H one A.0 A.1 y h A.2) in
        ap (λ K. contains K y) same ∙ A.2))) Q.1

    found_parts : AreIndependentParts R P found
    found_parts = parts_of_splitting R P Qs are found groups each_is_part

  pub are_the_parts : AreIndependentParts R P (independent_parts_of R b P)
  unfolding independent_parts_of
  are_the_parts =
      let Qs = parts_exist R P p d r (λ n f s. period-least R P b n f s) in
      let l = listed_parts R P Qs.0 Qs.1 in
      found_parts l.0 l.1 l.2

  pub same_but_order : (Qs : List Generation) → AreIndependentParts R P Qs → IsPermutation (independent_parts_of R b P) Qs
  same_but_order Qs are = one_list R P (independent_parts_of R b P) Qs are_the_parts are

-- what was found of a set, and is found of a later generation
pub found_later : (R : Rule) (b k : ℕ) (P : Generation) → RecursWithin R b P →
    IsPermutation (generations R (independent_parts_of R b P) k) (independent_parts_of R b (generation R P k))
found_later R b k P within =
    let later : RecursWithin R b (generation R P k) = record {
      steps = within.steps;
      by = within.by;
      within = within.within;
      recurs = RecursBy-later R P within.steps within.by within.recurs k;
    } in
    one_list R (generation R P k) (generations R (independent_parts_of R b P) k) (independent_parts_of R b (generation R P k))
    (later_parts R P (independent_parts_of R b P) (are_the_parts R b P within) within.steps within.by within.recurs k)
    (are_the_parts R b (generation R P k) later)

pub bound_free : (R : Rule) (b c : ℕ) (P : Generation) → RecursWithin R b P → RecursWithin R c P →
    independent_parts_of R b P ≡ independent_parts_of R c P
unfolding independent_parts_of
bound_free R b c P r s =
    ap (λ n. longest (filter (are_held_apart_through R P n (corner_offset R P n)) (splittings P))) (one_period R P b c r s)
