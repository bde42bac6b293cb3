-- A set that is moved as a whole keeps its code, and counts as what it did.
use Rattle.std.proofs.Common.{◌≡◌, ℕ, Bool, true, false, cond, List, [], ◌∷◌, map, refl, sym, ap, subst, ◌∙◌}
use Rattle.std.specs.List.{All}
use Rattle.std.specs.Cmp.{both_ways}
use Rattle.std.proofs.lemmas.List.{append-nil}
use Rattle.std.proofs.lemmas.List.Elements.{All-cons, All-head, All-map, All-nil, All-tail}
use Rattle.life_model.specs.Cell.{Cell, plus}
use Rattle.life_model.specs.Generation.{Generation}
use Rattle.life_model.specs.Rule.{Rule}
use Rattle.life_model.specs.Evolution.{generation}
use Rattle.life_model.specs.Recurrence.{AreOneObject}
use Rattle.life_model.specs.Symmetry.{Same, image_under, normal, translate_of}
use Rattle.life_model.proofs.Moves.{moved-moved, normal-moved}
use Rattle.life_objects.proofs.Phases.{turned-same}
use Rattle.life_model.proofs.Recurrences.{generation-zero}
use Rattle.life_objects.specs.Ash.{IsObject, RecursWithin}
use Rattle.life_objects.specs.Limits.{objects_bound_limit}
use Rattle.life_objects.proofs.Recurring.{RecursBy-moved, RecursBy-unmoved}
use Rattle.life_parts.specs.Parts.Parts.{AreIndependentParts}
use Rattle.life_parts.proofs.PartsLemmas.Lists.{moved_parts}
use Rattle.life_answer.specs.Apgcode.{code_of}
use Rattle.life_answer.specs.Census.{counted_parts, part_code}
use Rattle.life_answer.specs.Counted.{all_come_again}
use Rattle.life_answer.specs.Parts.{counted_codes}
use Rattle.life_answer.proofs.CountedSets.{codes_as, codes_of_each, come_again_by, come_again_tells}
use Rattle.life_answer.proofs.PartCodes.{one_code}
use Rattle.life_answer.proofs.Tallying.{counted_permutation}
use Rattle.life_codes.proofs.Phases.{code_by_shape}
use Rattle.life_orbit.specs.Course.{Course, IsCourse}
use Rattle.life_census.specs.Counted.{CountsAs}
use Rattle.life_census.specs.Courses.{course_code}
use Rattle.life_census.proofs.CountedParts.{HasCodes, counted_later, codes_by_parts}

pub code-moved : (R : Rule) (P Q : Generation) (p : ℕ) (d by : Cell) → Q ≡ translate_of P by → code_of R P p d ≡ code_of R Q p d
code-moved R P Q p d by is = code_by_shape R P Q p d (sym (ap normal is ∙ normal-moved P by))

module _ (R : Rule) (by : Cell) where
  abbrev moved : Generation → Generation
  moved Q = translate_of Q by

  moved_is_one : (Q : Generation) → AreOneObject R Q (moved Q)
  moved_is_one Q = record {
    first_phase = 0;
    second_phase = 0;
    map = Same;
    by = by;
    same = generation-zero R (moved Q) ∙ ap moved (sym (turned-same Q) ∙ ap (λ G. image_under G Same) (sym (generation-zero R Q)));
  }

  module _ (b : ℕ) where
    within_moved : (Q : Generation) → RecursWithin R b Q → RecursWithin R b (moved Q)
    within_moved Q r = record {
      steps = r.steps;
      by = r.by;
      within = r.within;
      recurs = RecursBy-moved R Q r.steps r.by by r.recurs;
    }

    within_unmoved : (Q : Generation) → RecursWithin R b (moved Q) → RecursWithin R b Q
    within_unmoved Q r = record {
      steps = r.steps;
      by = r.by;
      within = r.within;
      recurs = RecursBy-unmoved R Q r.steps r.by by r.recurs;
    }

    moved_code : (Q : Generation) → RecursWithin R b Q → part_code R b Q ≡ part_code R b (moved Q)
    moved_code Q r =
        let s = within_moved Q r in
        one_code R b Q (moved Q) r.steps s.steps r.by s.by r.recurs s.recurs (moved_is_one Q)

    moved_codes : (Qs : List Generation) → All (RecursWithin R b) Qs → map (part_code R b) Qs ≡ map (part_code R b) (map moved Qs)
    moved_codes [] again = refl
    moved_codes (Q ∷ Qs) again =
        λ i.
        moved_code Q (All-head (RecursWithin R b) Q Qs again) i
        ∷ moved_codes Qs (All-tail (RecursWithin R b) Q Qs again) i

    all_unmoved : (Qs : List Generation) → All (RecursWithin R b) (map moved Qs) → All (RecursWithin R b) Qs
    all_unmoved [] again = All-nil (RecursWithin R b)
    all_unmoved (Q ∷ Qs) again =
        All-cons (RecursWithin R b) Q Qs
        (within_unmoved Q (All-head (RecursWithin R b) (moved Q) (map moved Qs) again))
        (all_unmoved Qs (All-tail (RecursWithin R b) (moved Q) (map moved Qs) again))

    same_answer : (Qs : List Generation) → all_come_again R b Qs ≡ all_come_again R b (map moved Qs)
    same_answer Qs =
        both_ways (all_come_again R b Qs) (all_come_again R b (map moved Qs))
        (λ h. come_again_by R b (map moved Qs)
        (All-map (RecursWithin R b) moved Qs (λ i d lt. within_moved _ (come_again_tells R b Qs h i d lt))))
        (λ h. come_again_by R b Qs (all_unmoved Qs (come_again_tells R b (map moved Qs) h)))

module _ (R : Rule) (P Q : Generation) (p : ℕ) (d by : Cell) (is : Q ≡ translate_of P by) where
  abbrev o : Course
  o = record { rule = R; set = P; period = p; displacement = d }

  abbrev there : Course
  there = record { rule = R; set = Q; period = p; displacement = d }

  same_code : course_code o ≡ course_code there
  same_code = code-moved R P Q p d by is

  module _ (Ps : List Generation) where
    abbrev Qs : List Generation
    Qs = map (moved R by) Ps

    by_answer : (t : Bool) → all_come_again R objects_bound_limit Ps ≡ t →
        cond t (map (part_code R objects_bound_limit) Ps) (course_code o ∷ [])
        ≡ cond t (map (part_code R objects_bound_limit) Qs) (course_code there ∷ [])
    by_answer true e = moved_codes R by objects_bound_limit Ps (come_again_tells R objects_bound_limit Ps e)
    by_answer false e = ap (λ c. c ∷ []) same_code

    codes-moved : codes_by_parts o Ps ≡ codes_by_parts there Qs
    codes-moved =
        by_answer (all_come_again R objects_bound_limit Ps) refl
        ∙ ap (λ t. cond t (map (part_code R objects_bound_limit) Qs) (course_code there ∷ []))
        (same_answer R by objects_bound_limit Ps)

  pub counts-moved : (near : Bool) (codes : List (List ℕ)) → HasCodes near o codes → HasCodes near there codes
  counts-moved true codes counts = counts ∙ ap (λ c. c ∷ []) same_code
  counts-moved false codes counts = record {
    parts = map (moved R by) counts.parts;
    independent =
        subst (λ G. AreIndependentParts R G (map (moved R by) counts.parts)) (sym is) (moved_parts R P by counts.parts counts.independent);
    of_parts = counts.of_parts ∙ codes-moved counts.parts;
  }

-- wherever it stands, a set counts as what its codes say
module _ (near : Bool) (o : Course) (course : IsCourse o) (codes : List (List ℕ)) (has : HasCodes near o codes) where
  course_moved : (d : Cell) → IsCourse (record { rule = o.rule; set = translate_of o.set d; period = o.period; displacement = o.displacement })
  course_moved d = record {
    recurs = RecursBy-moved o.rule o.set o.period o.displacement d course.recurs;
    least = λ n e again. course.least n e (RecursBy-unmoved o.rule o.set n e d again);
  }

  pub counts_everywhere : CountsAs near o.rule o.set codes
  counts_everywhere d b n object =
      let there = generation o.rule (translate_of o.set d) n in
      ap counted_codes (codes_of_each near o.rule b (there ∷ []) ∙ append-nil (codes_as near o.rule b there))
      ∙ counted_permutation (codes_as near o.rule b there) codes
      (counted_later o.rule b n (translate_of o.set d) o.period o.displacement (course_moved d) object near codes
      (counts-moved o.rule o.set (translate_of o.set d) o.period o.displacement d refl near codes has))

-- what counts in this way wherever it stands does so where it is moved
pub moved_counts : (near : Bool) (R : Rule) (P Q : Generation) (by : Cell) (codes : List (List ℕ)) → Q ≡ translate_of P by →
    CountsAs near R P codes → CountsAs near R Q codes
moved_counts near R P Q by codes is counts d b n =
    subst (λ G. IsObject R b (generation R G n) → counted_parts near R b (generation R G n ∷ []) ≡ counted_codes codes)
    (sym (ap (λ G. translate_of G d) is ∙ moved-moved P by d)) (counts (plus by d) b n)
