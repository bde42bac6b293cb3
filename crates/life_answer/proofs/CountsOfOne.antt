-- Which object a set is determines what it counts as: the codes are the same for each set that is this object.
use Rattle.std.proofs.Common.{◌≡◌, ℕ, ◌+◌, ◌*◌, ◌≤◌, Bool, true, false, cond, List, [], ◌∷◌, map, sym, refl, ap, subst, ◌∙◌, arith}
use Rattle.std.specs.Cmp.{both_ways}
use Rattle.std.specs.List.{All, AllZip, Contains}
use Rattle.std.specs.List.Sorted.{IsPermutation}
use Rattle.std.proofs.lemmas.List.Elements.{All-cons, All-head, All-tail}
use Rattle.std.proofs.lemmas.List.Sorted.{All-permutation, IsPermutation-map, IsPermutation-refl, IsPermutation-sym}
use Rattle.life_model.specs.Cell.{Cell}
use Rattle.life_model.specs.Rule.{Rule}
use Rattle.life_model.specs.Generation.{Generation}
use Rattle.life_model.specs.Evolution.{generation}
use Rattle.life_model.specs.Recurrence.{AreOneObject, RecursBy}
use Rattle.life_model.specs.Symmetry.{Orientation, image_under, translate_of, turn}
use Rattle.life_model.proofs.Objects.{AreOneObject-swap}
use Rattle.life_model.proofs.Recurrences.{generation-zero}
use Rattle.life_objects.specs.Ash.{RecursWithin}
use Rattle.life_objects.specs.Drift.{multiple_of}
use Rattle.life_objects.specs.Limits.{objects_bound_limit}
use Rattle.life_objects.specs.Union.{generations}
use Rattle.life_objects.proofs.Lists.{Contains-head, Contains-later}
use Rattle.life_objects.proofs.Phases.{phase_is_one}
use Rattle.life_objects.proofs.Recurring.{RecursBy-later, RecursBy-moved}
use Rattle.life_parts.specs.Parts.Parts.{AreIndependentParts}
use Rattle.life_parts.proofs.PartsLemmas.Lists.{later_parts, moved_parts, one_list, part_recurs}
use Rattle.life_parts.proofs.PartsLemmas.Turned.{turned_parts}
use Rattle.life_parts.specs.Independent.Independent.{independent_parts_of}
use Rattle.life_parts.proofs.IndependentLemmas.Finest.{are_the_parts}
use Rattle.life_answer.specs.Census.{part_code}
use Rattle.life_answer.specs.Counted.{all_come_again, code_bound}
use Rattle.life_answer.proofs.CountedSets.{codes_as, come_again_by, come_again_tells}
use Rattle.life_answer.proofs.PartCodes.{one_code, recurs_across, turned_recurs, wider_code}

module _ (R : Rule) where
  -- ---- one object, set by set

  -- two sets that recur, and are one object
  pub record AreOne (P Q : Generation) : Type 0 where
    pub steps : ℕ
    pub by : Cell
    pub recurs : RecursBy R P steps by
    pub other_steps : ℕ
    pub other_by : Cell
    pub other_recurs : RecursBy R Q other_steps other_by
    pub one : AreOneObject R P Q

  pub one_within : (b c : ℕ) (P Q : Generation) → RecursWithin R b P → RecursWithin R c Q → AreOneObject R P Q → AreOne P Q
  one_within b c P Q p q one = record {
    steps = p.steps;
    by = p.by;
    recurs = p.recurs;
    other_steps = q.steps;
    other_by = q.by;
    other_recurs = q.recurs;
    one = one;
  }

  code_of_one : (B : ℕ) (P Q : Generation) → AreOne P Q → part_code R B P ≡ part_code R B Q
  code_of_one B P Q a = one_code R B P Q a.steps a.other_steps a.by a.other_by a.recurs a.other_recurs a.one

  pub codes_of_ones : (B : ℕ) (Ps Qs : List Generation) → AllZip AreOne Ps Qs → map (part_code R B) Ps ≡ map (part_code R B) Qs
  codes_of_ones B [] [] ones = refl
  codes_of_ones B [] (Q ∷ Qs) ones = absurd ones
  codes_of_ones B (P ∷ Ps) [] ones = absurd ones
  codes_of_ones B (P ∷ Ps) (Q ∷ Qs) ones = λ i. code_of_one B P Q ones.0 i ∷ codes_of_ones B Ps Qs ones.1 i

  come_of_one : (b : ℕ) (P Q : Generation) → AreOne P Q → RecursWithin R b P → RecursWithin R b Q
  come_of_one b P Q a again =
      let across = recurs_across R P Q a.one a.other_steps a.other_by a.other_recurs again.steps again.by again.recurs in
      record { steps = again.steps; by = across.0; within = again.within; recurs = across.1 }

  come_of_ones : (b : ℕ) (Ps Qs : List Generation) → AllZip AreOne Ps Qs → All (RecursWithin R b) Ps → All (RecursWithin R b) Qs
  come_of_ones b [] [] ones each = each
  come_of_ones b [] (Q ∷ Qs) ones each = absurd ones
  come_of_ones b (P ∷ Ps) [] ones each = absurd ones
  come_of_ones b (P ∷ Ps) (Q ∷ Qs) ones each =
      All-cons (RecursWithin R b) Q Qs (come_of_one b P Q ones.0 (All-head (RecursWithin R b) P Ps each))
      (come_of_ones b Ps Qs ones.1 (All-tail (RecursWithin R b) P Ps each))

  ones_by : (f : Generation → Generation) (Ps : List Generation) → ((P : Generation) → Contains Ps P → AreOne P (f P)) →
      AllZip AreOne Ps (map f Ps)
  ones_by f [] each = tt
  ones_by f (P ∷ Ps) each = (each P (Contains-head P Ps), ones_by f Ps (λ Q one. each Q (Contains-later P Q Ps one)))

  swapped : (P Q : Generation) → AreOne P Q → AreOne Q P
  swapped P Q a = record {
    steps = a.other_steps;
    by = a.other_by;
    recurs = a.other_recurs;
    other_steps = a.steps;
    other_by = a.by;
    other_recurs = a.recurs;
    one = AreOneObject-swap R P Q a.one;
  }

  all_swapped : (Ps Qs : List Generation) → AllZip AreOne Ps Qs → AllZip AreOne Qs Ps
  all_swapped [] [] ones = tt
  all_swapped [] (Q ∷ Qs) ones = absurd ones
  all_swapped (P ∷ Ps) [] ones = absurd ones
  all_swapped (P ∷ Ps) (Q ∷ Qs) ones = (swapped P Q ones.0, all_swapped Ps Qs ones.1)

  -- ---- the independent parts of one object

  -- a set's generation k, mapped and moved
  abbrev image : ℕ → Orientation → Cell → Generation → Generation
  image k m v A = translate_of (image_under (generation R A k) m) v

  image_is_one : (k : ℕ) (m : Orientation) (v : Cell) (P : Generation) (n : ℕ) (d : Cell) → RecursBy R P n d →
      AreOne P (image k m v P)
  image_is_one k m v P n d r = record {
    steps = n;
    by = d;
    recurs = r;
    other_steps = n;
    other_by = turn m d;
    other_recurs =
        RecursBy-moved R (image_under (generation R P k) m) n (turn m d) v
        (turned_recurs R (generation R P k) n d m (RecursBy-later R P n d r k));
    one = record { first_phase = k; second_phase = 0; map = m; by = v; same = generation-zero R (image k m v P) };
  }

  phase_is_one_too : (l : ℕ) (P : Generation) (n : ℕ) (d : Cell) → RecursBy R P n d → AreOne P (generation R P l)
  phase_is_one_too l P n d r = record {
    steps = n;
    by = d;
    recurs = r;
    other_steps = n;
    other_by = d;
    other_recurs = RecursBy-later R P n d r l;
    one = phase_is_one R P l;
  }

  images : (k : ℕ) (m : Orientation) (v : Cell) (Ps : List Generation) →
      map (λ A. translate_of A v) (map (λ A. image_under A m) (generations R Ps k)) ≡ map (image k m v) Ps
  images k m v [] = refl
  images k m v (P ∷ Ps) = ap (λ As. image k m v P ∷ As) (images k m v Ps)

  -- the parts of the one as they are found among those of the other
  record AreMatched (Ps Qs : List Generation) : Type 0 where
    here : List Generation
    there : List Generation
    ones : AllZip AreOne Ps here
    others : AllZip AreOne Qs there
    order : IsPermutation here there

  back : (Ps Qs : List Generation) → AreMatched Ps Qs → AreMatched Qs Ps
  back Ps Qs m = record {
    here = m.there;
    there = m.here;
    ones = m.others;
    others = m.ones;
    order = IsPermutation-sym m.here m.there m.order;
  }

  matched_come : (Ps Qs : List Generation) → AreMatched Ps Qs → all_come_again R objects_bound_limit Ps ≡ true →
      all_come_again R objects_bound_limit Qs ≡ true
  matched_come Ps Qs m h =
      let b : ℕ = objects_bound_limit in
      let here = come_of_ones b Ps m.here m.ones (come_again_tells R b Ps h) in
      let there = All-permutation (RecursWithin R b) m.here m.there m.order here in
      come_again_by R b Qs (come_of_ones b m.there Qs (all_swapped Qs m.there m.others) there)

  matched_codes : (B : ℕ) (Ps Qs : List Generation) → AreMatched Ps Qs →
      IsPermutation (map (part_code R B) Ps) (map (part_code R B) Qs)
  matched_codes B Ps Qs m =
      subst (λ ts. IsPermutation ts (map (part_code R B) Qs)) (sym (codes_of_ones B Ps m.here m.ones))
      (subst (IsPermutation (map (part_code R B) m.here)) (sym (codes_of_ones B Qs m.there m.others))
      (IsPermutation-map (part_code R B) m.here m.there m.order))

  parts_matched : (P Q : Generation) (Ps Qs : List Generation) → AreOne P Q → AreIndependentParts R P Ps →
      AreIndependentParts R Q Qs → AreMatched Ps Qs
  parts_matched P Q Ps Qs a are too =
      let k = a.one.first_phase in
      let l = a.one.second_phase in
      let m = a.one.map in
      let v = a.one.by in
      let later = later_parts R P Ps are a.steps a.by a.recurs k in
      let turned = turned_parts R (generation R P k) m (generations R Ps k) later in
      let moved = moved_parts R (image_under (generation R P k) m) v (map (λ A. image_under A m) (generations R Ps k)) turned in
      let here : AreIndependentParts R (generation R Q l) (map (image k m v) Ps) =
      subst (AreIndependentParts R (generation R Q l)) (images k m v Ps)
      (subst (λ H. AreIndependentParts R H (map (λ A. translate_of A v) (map (λ A. image_under A m) (generations R Ps k))))
      (sym a.one.same) moved) in
      let there = later_parts R Q Qs too a.other_steps a.other_by a.other_recurs l in
      record {
        here = map (image k m v) Ps;
        there = generations R Qs l;
        ones =
            ones_by (image k m v) Ps (λ A one.
            let again = part_recurs R P Ps are a.steps a.by a.recurs A one in
            image_is_one k m v A (again.0 * a.steps) (multiple_of again.0 a.by) again.3);
        others =
            ones_by (λ A. generation R A l) Qs (λ A one.
            let again = part_recurs R Q Qs too a.other_steps a.other_by a.other_recurs A one in
            phase_is_one_too l A (again.0 * a.other_steps) (multiple_of again.0 a.other_by) again.3);
        order = one_list R (generation R Q l) (map (image k m v) Ps) (generations R Qs l) here there;
      }

  -- ---- the codes of what an object counts as

  pub wider_codes : (b B : ℕ) (Ps : List Generation) → b ≤ B → All (RecursWithin R b) Ps →
      map (part_code R b) Ps ≡ map (part_code R B) Ps
  wider_codes b B [] le each = refl
  wider_codes b B (P ∷ Ps) le each =
      λ i. wider_code R b B P le (All-head (RecursWithin R b) P Ps each) i
      ∷ wider_codes b B Ps le (All-tail (RecursWithin R b) P Ps each) i

  module _ (b c : ℕ) (P Q : Generation) (here : RecursWithin R b P) (there : RecursWithin R c Q) (one : AreOneObject R P Q) where
    abbrev both : AreOne P Q
    both = one_within b c P Q here there one

    same_code : part_code R (code_bound b) P ≡ part_code R (code_bound c) Q
    same_code =
        let B : ℕ = b + c in
        sym (wider_code R b (code_bound b) P (omega arith) here) ∙ wider_code R b B P (omega arith) here
        ∙ code_of_one B P Q both
        ∙ sym (wider_code R c B Q (omega arith) there) ∙ wider_code R c (code_bound c) Q (omega arith) there

    abbrev whole : IsPermutation (part_code R (code_bound b) P ∷ []) (part_code R (code_bound c) Q ∷ [])
    whole =
        subst (λ t. IsPermutation (part_code R (code_bound b) P ∷ []) (t ∷ [])) same_code
        (IsPermutation-refl (part_code R (code_bound b) P ∷ []))

    module _ (Ps Qs : List Generation) (m : AreMatched Ps Qs) where
      by_parts : all_come_again R objects_bound_limit Ps ≡ true →
          IsPermutation (map (part_code R (code_bound b)) Ps) (map (part_code R (code_bound c)) Qs)
      by_parts h =
          let a : ℕ = objects_bound_limit in
          let first = wider_codes a (code_bound b) Ps (omega arith) (come_again_tells R a Ps h) in
          let second = wider_codes a (code_bound c) Qs (omega arith) (come_again_tells R a Qs (matched_come Ps Qs m h)) in
          subst (λ ts. IsPermutation ts (map (part_code R (code_bound c)) Qs)) first
          (subst (IsPermutation (map (part_code R a) Ps)) second (matched_codes a Ps Qs m))

      by_test : (s t : Bool) → all_come_again R objects_bound_limit Ps ≡ s → all_come_again R objects_bound_limit Qs ≡ t → s ≡ t →
          IsPermutation (map (part_code R (code_bound b)) (cond s Ps (P ∷ [])))
          (map (part_code R (code_bound c)) (cond t Qs (Q ∷ [])))
      by_test true true e f same = by_parts e
      by_test true false e f same = absurd cc
      by_test false true e f same = absurd cc
      by_test false false e f same = whole

    pub same_counts_as : (near : Bool) → IsPermutation (codes_as near R b P) (codes_as near R c Q)
    same_counts_as true = whole
    same_counts_as false =
        let Ps = independent_parts_of R b P in
        let Qs = independent_parts_of R c Q in
        let m = parts_matched P Q Ps Qs both (are_the_parts R b P here) (are_the_parts R c Q there) in
        by_test Ps Qs m (all_come_again R objects_bound_limit Ps) (all_come_again R objects_bound_limit Qs) refl refl
        (both_ways (all_come_again R objects_bound_limit Ps) (all_come_again R objects_bound_limit Qs)
        (matched_come Ps Qs m) (matched_come Qs Ps (back Ps Qs m)))
