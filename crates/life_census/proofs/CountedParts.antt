-- What an object counts as in a later generation, within a bound, is what the set that becomes it counts as.
use Rattle.std.proofs.Common.{◌≡◌, ◌≢◌, ℕ, ◌*◌, ◌≤◌, Bool, true, false, cond, List, [], ◌∷◌, map, refl, sym, subst, ◌∙◌, arith}
use Rattle.std.specs.List.{All, Contains}
use Rattle.std.specs.List.Sorted.{IsPermutation}
use Rattle.std.specs.Cmp.{both_ways}
use Rattle.std.proofs.lemmas.List.Elements.{All-cons, All-head, All-map, All-nil, All-tail}
use Rattle.std.proofs.lemmas.List.Sorted.{All-permutation, IsPermutation-map, IsPermutation-refl, IsPermutation-sym}
use Rattle.life_model.specs.Cell.{Cell}
use Rattle.life_model.specs.Rule.{Rule}
use Rattle.life_model.specs.Generation.{Generation, empty}
use Rattle.life_model.specs.Evolution.{generation}
use Rattle.life_model.specs.Recurrence.{RecursBy}
use Rattle.life_model.proofs.Objects.{AreOneObject-swap}
use Rattle.life_model.proofs.Recurrences.{generation-zero}
use Rattle.life_objects.specs.Ash.{IsObject, RecursWithin}
use Rattle.life_objects.specs.Drift.{multiple_of}
use Rattle.life_objects.specs.Limits.{objects_bound_limit}
use Rattle.life_objects.specs.Union.{generations}
use Rattle.life_objects.proofs.Lists.{Contains-head, Contains-later}
use Rattle.life_objects.proofs.Phases.{phase_is_one}
use Rattle.life_objects.proofs.Recurring.{gone_stays, RecursBy-later, RecursBy-sooner}
use Rattle.life_parts.specs.Parts.Parts.{AreIndependentParts}
use Rattle.life_parts.proofs.PartsLemmas.Lists.{later_parts, part_recurs}
use Rattle.life_parts.specs.Independent.Independent.{independent_parts_of}
use Rattle.life_parts.proofs.IndependentLemmas.Finest.{same_but_order}
use Rattle.life_answer.specs.Census.{part_code}
use Rattle.life_answer.specs.Counted.{all_come_again, code_bound}
use Rattle.life_answer.proofs.CountedSets.{codes_as, come_again_by, come_again_tells}
use Rattle.life_answer.proofs.PartCodes.{one_code, wider_code}
use Rattle.life_orbit.specs.Course.{Course, IsCourse}
use Rattle.life_census.specs.Courses.{course_code}
use Rattle.life_census.proofs.PartCodes.{code_alone}

-- the codes of the parts of a set, where each of these recurs within 100,000 generations, and else that of the set
abbrev pub codes_by_parts : Course → List Generation → List (List ℕ)
codes_by_parts o parts =
    cond (all_come_again o.rule objects_bound_limit parts) (map (part_code o.rule objects_bound_limit) parts)
    (course_code o ∷ [])

-- In this way these are the codes of the independent parts of a set that recurs.
pub record AreCodesOfParts (o : Course) (codes : List (List ℕ)) : Type 0 where
  pub parts : List Generation
  pub independent : AreIndependentParts o.rule o.set parts
  pub of_parts : codes ≡ codes_by_parts o parts

-- These are the codes of what a set that recurs so counts as.
abbrev pub HasCodes : Bool → Course → List (List ℕ) → Type 0
HasCodes true o codes = codes ≡ course_code o ∷ []
HasCodes false o codes = AreCodesOfParts o codes

-- what recurs within b after n generations recurs within b at once
sooner_within : (R : Rule) (b n : ℕ) (Q : Generation) (k : ℕ) (e : Cell) → RecursBy R Q k e →
    RecursWithin R b (generation R Q n) → RecursWithin R b Q
sooner_within R b n Q k e again late = record {
  steps = late.steps;
  by = late.by;
  within = late.within;
  recurs = RecursBy-sooner R Q k e again n late.steps late.by late.recurs;
}

later_within : (R : Rule) (b n : ℕ) (Q : Generation) → RecursWithin R b Q → RecursWithin R b (generation R Q n)
later_within R b n Q again = record {
  steps = again.steps;
  by = again.by;
  within = again.within;
  recurs = RecursBy-later R Q again.steps again.by again.recurs n;
}

module _ (R : Rule) (b n : ℕ) where
  all_sooner : (Qs : List Generation) → ((Q : Generation) → Contains Qs Q → (k : ℕ) × (e : Cell) × RecursBy R Q k e) →
      All (RecursWithin R b) (generations R Qs n) → All (RecursWithin R b) Qs
  all_sooner [] again late = All-nil (RecursWithin R b)
  all_sooner (Q ∷ Qs) again late =
      let first = again Q (Contains-head Q Qs) in
      All-cons (RecursWithin R b) Q Qs
      (sooner_within R b n Q first.0 first.1 first.2
      (All-head (RecursWithin R b) (generation R Q n) (generations R Qs n) late))
      (all_sooner Qs (λ A one. again A (Contains-later Q A Qs one))
      (All-tail (RecursWithin R b) (generation R Q n) (generations R Qs n) late))

  all_later : (Qs : List Generation) → All (RecursWithin R b) Qs → All (RecursWithin R b) (generations R Qs n)
  all_later Qs all = All-map (RecursWithin R b) (λ Q. generation R Q n) Qs (λ i d h. later_within R b n _ (all i d h))

-- a set that recurs within a bound has one code in all its generations, within each bound that is no less
code_in_time : (R : Rule) (b c n : ℕ) (Q : Generation) → b ≤ c → RecursWithin R b Q →
    part_code R c (generation R Q n) ≡ part_code R b Q
code_in_time R b c n Q le again =
    one_code R c (generation R Q n) Q again.steps again.steps again.by again.by
    (RecursBy-later R Q again.steps again.by again.recurs n) again.recurs
    (AreOneObject-swap R Q (generation R Q n) (phase_is_one R Q n))
    ∙ sym (wider_code R b c Q le again)

codes_in_time : (R : Rule) (b c n : ℕ) (Qs : List Generation) → b ≤ c → All (RecursWithin R b) Qs →
    map (part_code R c) (generations R Qs n) ≡ map (part_code R b) Qs
codes_in_time R b c n [] le again = refl
codes_in_time R b c n (Q ∷ Qs) le again =
    λ i.
    code_in_time R b c n Q le (All-head (RecursWithin R b) Q Qs again) i
    ∷ codes_in_time R b c n Qs le (All-tail (RecursWithin R b) Q Qs again) i

module _ (R : Rule) (b n : ℕ) (P : Generation) (p : ℕ) (d : Cell)
    (course : IsCourse (record { rule = R; set = P; period = p; displacement = d }))
    (object : IsObject R b (generation R P n)) where
  abbrev o : Course
  o = record { rule = R; set = P; period = p; displacement = d }

  abbrev late : Generation
  late = generation R P n

  within : p ≤ b
  within =
      let again = object.recurs in
      let least = course.least again.steps again.by
      (RecursBy-sooner R P p d course.recurs n again.steps again.by again.recurs) in
      let most = again.within in
      omega arith

  some : P ≢ empty
  some gone = object.nonempty (gone_stays R P 0 n (generation-zero R P ∙ gone) (omega arith))

  own_code : part_code R (code_bound b) late ≡ course_code o
  own_code =
      let le = within in
      code_in_time R (code_bound b) (code_bound b) n P (omega arith)
      (record { steps = p; by = d; within = omega arith; recurs = course.recurs })
      ∙ code_alone o (code_bound b) course (omega arith) some

  module _ (Qs : List Generation) (are : AreIndependentParts R P Qs) where
    abbrev found : List Generation
    found = independent_parts_of R b late

    order : IsPermutation found (generations R Qs n)
    order =
        same_but_order R b late object.recurs (generations R Qs n) (later_parts R P Qs are p d course.recurs n)

    again : (Q : Generation) → Contains Qs Q → (k : ℕ) × (e : Cell) × RecursBy R Q k e
    again Q one =
        let r = part_recurs R P Qs are p d course.recurs Q one in
        (r.0 * p, multiple_of r.0 d, r.3)

    same_answer : all_come_again R objects_bound_limit found ≡ all_come_again R objects_bound_limit Qs
    same_answer =
        let limit = objects_bound_limit in
        both_ways (all_come_again R limit found) (all_come_again R limit Qs)
        (λ h.
        come_again_by R limit Qs
        (all_sooner R limit n Qs again
        (All-permutation (RecursWithin R limit) found (generations R Qs n) order (come_again_tells R limit found h))))
        (λ h.
        come_again_by R limit found
        (All-permutation (RecursWithin R limit) (generations R Qs n) found (IsPermutation-sym found (generations R Qs n) order)
        (all_later R limit n Qs (come_again_tells R limit Qs h))))

    abbrev codes : List Generation → List (List ℕ)
    codes = map (part_code R (code_bound b))

    by_answer : (t : Bool) → all_come_again R objects_bound_limit Qs ≡ t →
        IsPermutation (codes (cond t found (late ∷ [])))
        (cond t (map (part_code R objects_bound_limit) Qs) (course_code o ∷ []))
    by_answer true e =
        subst (IsPermutation (codes found))
        (codes_in_time R objects_bound_limit (code_bound b) n Qs (omega arith)
        (come_again_tells R objects_bound_limit Qs e))
        (IsPermutation-map (part_code R (code_bound b)) found (generations R Qs n) order)
    by_answer false e = subst (λ c. IsPermutation (c ∷ []) (course_code o ∷ [])) (sym own_code) (IsPermutation-refl (course_code o ∷ []))

    parts_counted : IsPermutation (codes_as false R b late) (codes_by_parts o Qs)
    parts_counted =
        subst (λ t. IsPermutation (codes (cond t found (late ∷ []))) (codes_by_parts o Qs)) (sym same_answer)
        (by_answer (all_come_again R objects_bound_limit Qs) refl)

  pub counted_later : (near : Bool) (codes : List (List ℕ)) → HasCodes near o codes → IsPermutation (codes_as near R b late) codes
  counted_later true codes is =
      subst (IsPermutation (codes_as true R b late)) (sym is)
      (subst (λ c. IsPermutation (c ∷ []) (course_code o ∷ [])) (sym own_code) (IsPermutation-refl (course_code o ∷ [])))
  counted_later false codes is =
      subst (IsPermutation (codes_as false R b late)) (sym is.of_parts) (parts_counted is.parts is.independent)
