-- The codes that are made of an orbit's set are those of what it counts as.
use Rattle.std.proofs.Common.{◌≡◌, ◌≢◌, ℕ, Bool, false, cond, List, [], ◌∷◌, map, inl, inr, refl, sym, ap, subst, ◌∙◌, arith}
use Rattle.std.specs.List.{All}
use Rattle.std.proofs.lemmas.Bool.{cases_Bool}
use Rattle.std.proofs.lemmas.List.Elements.{All-head, All-map, All-tail, All-weaker}
use Rattle.life_model.specs.Rule.{Rule}
use Rattle.life_model.specs.Generation.{Generation, empty}
use Rattle.life_objects.specs.Ash.{RecursWithin}
use Rattle.life_objects.specs.Limits.{objects_bound_limit}
use Rattle.life_parts.specs.Parts.Parts.{AreIndependentParts, IsIndependentPart}
use Rattle.life_parts.specs.Independent.Independent.{independent_parts_of}
use Rattle.life_parts.proofs.IndependentLemmas.Finest.{are_the_parts}
use Rattle.life_answer.specs.Census.{part_code}
use Rattle.life_answer.specs.Counted.{all_come_again}
use Rattle.life_answer.proofs.CountedSets.{come_again_by, come_again_tells}
use Rattle.life_apart.specs.Sets.{sets_of}
use Rattle.life_orbit.specs.Course.{Course, IsCourse}
use Rattle.life_islands.specs.Split.Courses.{IsCourseWithin}
use Rattle.life_census.specs.Courses.{course_code}
use Rattle.life_census.proofs.CountedParts.{HasCodes}
use Rattle.life_census.proofs.PartCodes.{code_alone}

course_within : (R : Rule) (b : ℕ) (o : Course) → IsCourseWithin R b o → RecursWithin R b o.set
course_within R b o one =
    subst (λ S. RecursWithin S b o.set) one.rule
    (record { steps = o.period; by = o.displacement; within = one.period; recurs = one.recurs.recurs })

module _ (R : Rule) (b : ℕ) where
  code_of_part : (o : Course) → IsCourseWithin R b o → o.set ≢ empty → course_code o ≡ part_code R b o.set
  code_of_part o one some =
      sym (code_alone o b one.recurs one.period some) ∙ ap (λ S. part_code S b o.set) one.rule

  codes_of_orbits : (os : List Course) → All (IsCourseWithin R b) os → All (λ Q. Q ≢ empty) (sets_of os) →
      map course_code os ≡ map (part_code R b) (sets_of os)
  codes_of_orbits [] within some = refl
  codes_of_orbits (o ∷ os) within some =
      λ i.
      code_of_part o (All-head (IsCourseWithin R b) o os within) (All-head (λ Q. Q ≢ empty) o.set (sets_of os) some) i
      ∷ codes_of_orbits os (All-tail (IsCourseWithin R b) o os within) (All-tail (λ Q. Q ≢ empty) o.set (sets_of os) some) i

module _ (o : Course) (codes : List (List ℕ)) where
  abbrev by_answer : List Generation → Bool → List (List ℕ)
  by_answer Qs t = cond t (map (part_code o.rule objects_bound_limit) Qs) (course_code o ∷ [])

  -- where each part recurs in time
  pub counts_as_parts : (os : List Course) → AreIndependentParts o.rule o.set (sets_of os) →
      All (IsCourseWithin o.rule objects_bound_limit) os → codes ≡ map course_code os → HasCodes false o codes
  counts_as_parts os are within is =
      let some = All-weaker (IsIndependentPart o.rule o.set) (λ Q. Q ≢ empty) (λ Q part. part.nonempty) (sets_of os) are.parts in
      let again : All (RecursWithin o.rule objects_bound_limit) (sets_of os) =
      All-map (RecursWithin o.rule objects_bound_limit) (λ (c : Course). c.set) os
      (All-weaker (IsCourseWithin o.rule objects_bound_limit) (λ c. RecursWithin o.rule objects_bound_limit c.set)
      (course_within o.rule objects_bound_limit) os within) in
      record {
        parts = sets_of os;
        independent = are;
        of_parts = is ∙ codes_of_orbits o.rule objects_bound_limit os within some
            ∙ ap (by_answer (sets_of os)) (sym (come_again_by o.rule objects_bound_limit (sets_of os) again));
      }

  -- where one does not
  pub counts_as_whole : IsCourse o → ((Qs : List Generation) → AreIndependentParts o.rule o.set Qs →
      All (RecursWithin o.rule objects_bound_limit) Qs → ⊥) → codes ≡ course_code o ∷ [] → HasCodes false o codes
  counts_as_whole course never is =
      let Qs = independent_parts_of o.rule o.period o.set in
      let are = are_the_parts o.rule o.period o.set
      (record { steps = o.period; by = o.displacement; within = omega arith; recurs = course.recurs }) in
      record {
        parts = Qs;
        independent = are;
        of_parts =
            is
            ∙ ap (by_answer Qs) (elim (cases_Bool (all_come_again o.rule objects_bound_limit Qs)) as (λ _. false ≡ all_come_again o.rule objects_bound_limit Qs) [
              | inl all ↦ absurd (never Qs are (come_again_tells o.rule objects_bound_limit Qs all))
              | inr one_not ↦ sym one_not
            ]);
      }
