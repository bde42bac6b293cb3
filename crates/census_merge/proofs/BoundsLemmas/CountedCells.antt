-- How many sets ash counts as.
use Rattle.std.proofs.Common.{◌≡◌, ◌≢◌, ℕ, ◌≤◌, ◌^◌, Bool, true, false, cond, List, [], ◌∷◌, length, refl, sym, ap, ◌∙◌, arith}
use Rattle.std.specs.List.{All, AllPairs}
use Rattle.std.proofs.lemmas.List.Elements.{All-append, All-cons, All-head, All-nil, All-tail, All-weaker}
use Rattle.life_answer.specs.Counted.{all_come_again, counted_as, counted_of}
use Rattle.life_cells.specs.Limits.{IsWithin, age_limit}
use Rattle.life_parts.specs.Independent.Independent.{independent_parts_of}
use Rattle.life_parts.proofs.IndependentLemmas.Finest.{are_the_parts}
use Rattle.life_objects.proofs.Found.{owned}
use Rattle.life_model.specs.Cell.{Cell}
use Rattle.life_model.specs.Evolution.{generation}
use Rattle.life_model.specs.Generation.{Generation, contains, empty}
use Rattle.life_model.specs.Rule.{Rule}
use Rattle.life_objects.specs.Apart.{AreApart, AreApartForEver, AreDisjoint}
use Rattle.life_objects.specs.Ash.{IsAsh, IsObject}
use Rattle.life_objects.specs.Limits.{objects_bound_limit}
use Rattle.life_objects.specs.Union.{union, union_of}
use Rattle.life_objects.proofs.Distances.{apart_from_union_of, disjoint_from_apart}
use Rattle.life_objects.proofs.Lists.{AllPairs-append, AllPairs-head, AllPairs-nil, AllPairs-tail, AllPairs-weaker}
use Rattle.life_objects.proofs.Unions.{union-empty, union_of-append}
use Rattle.life_parts.specs.Parts.Parts.{IsIndependentPart}
use Rattle.census_merge.proofs.BoundsLemmas.CellCounts.{few_sets}

-- G is these sets, each of which has a cell, and no two of which share a cell
pub record AreSetsOf (G : Generation) (Qs : List Generation) : Type 0 where
  pub together : union_of Qs ≡ G
  pub some : All (λ Q. Q ≢ empty) Qs
  pub once : AllPairs AreDisjoint Qs

itself : (P : Generation) → P ≢ empty → AreSetsOf P (P ∷ [])
itself P some = record {
  together = union-empty P;
  some = All-cons (λ Q. Q ≢ empty) P [] some (All-nil (λ Q. Q ≢ empty));
  once = λ i j d h k. absurd (omega arith);
}

pub apart_now : (R : Rule) (parts : List Generation) → AllPairs (AreApartForEver R) parts → AllPairs AreApart parts
unfolding generation
apart_now R parts apart = AllPairs-weaker (AreApartForEver R) AreApart (λ P Q far. far 0) parts apart

module _ (R : Rule) (b : ℕ) where
  by_answer : (P : Generation) → IsObject R b P → (t : Bool) → AreSetsOf P (cond t (independent_parts_of R b P) (P ∷ []))
  by_answer P object true =
      let are = are_the_parts R b P object.recurs in
      record {
        together = are.together;
        some = All-weaker (IsIndependentPart R P) (λ Q. Q ≢ empty) (λ Q part. part.nonempty) (independent_parts_of R b P) are.parts;
        once = are.once;
      }
  by_answer P object false = itself P object.nonempty

  pub of_object : (near : Bool) (P : Generation) → IsObject R b P → AreSetsOf P (counted_as near R b P)
  of_object true P object = itself P object.nonempty
  of_object false P object = by_answer P object (all_come_again R objects_bound_limit (independent_parts_of R b P))

  of_ash : (near : Bool) (Ps : List Generation) → All (IsObject R b) Ps → AllPairs AreApart Ps →
      AreSetsOf (union_of Ps) (counted_of near R b Ps)
  of_ash near [] objects apart = record { together = refl; some = All-nil (λ Q. Q ≢ empty); once = AllPairs-nil AreDisjoint }
  of_ash near (P ∷ Ps) objects apart =
      let here = of_object near P (All-head (IsObject R b) P Ps objects) in
      let rest = of_ash near Ps (All-tail (IsObject R b) P Ps objects) (AllPairs-tail AreApart P Ps apart) in
      let Qs = counted_as near R b P in
      let others = counted_of near R b Ps in
      let disjoint = disjoint_from_apart P (union_of Ps) (apart_from_union_of P Ps (AllPairs-head AreApart P Ps apart)) in
      record {
        together = union_of-append Qs others ∙ (λ i. union (here.together i) (rest.together i));
        some = All-append (λ Q. Q ≢ empty) Qs others here.some rest.some;
        once = AllPairs-append AreDisjoint Qs others here.once rest.once (λ A B one two c h k.
            disjoint c (ap (λ G. contains G c) (sym here.together) ∙ owned Qs A c one h)
            (ap (λ G. contains G c) (sym rest.together) ∙ owned others B c two k));
      }

  -- each of them has a cell of its own
  pub few_counted : (near : Bool) (G : Generation) (parts : List Generation) → IsAsh R b G parts → (age : ℕ) → age ≤ age_limit →
      ((q : Cell) → contains G q ≡ true → IsWithin age q) → length (counted_of near R b parts) ≤ 2 ^ 48
  few_counted near G parts ash age young each =
      let sets = of_ash near parts ash.objects (apart_now R parts ash.apart) in
      few_sets (counted_of near R b parts) sets.some sets.once age young
      (λ q h. each q (ap (λ H. contains H q) (sym (sets.together ∙ ash.together)) ∙ h))
