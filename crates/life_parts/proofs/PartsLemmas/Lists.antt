-- Lists of independent parts: of a part, of a later generation, of a set that is moved or turned, and of one set twice.
use Rattle.std.proofs.Common.{◌≡◌, ◌≢◌, ℕ, ◌+◌, ◌*◌, ◌≤◌, true, List, [], ◌∷◌, ◌||◌, length, map, get_or, inl, inr, sym, refl, ap, subst, ◌∙◌, arith}
use Rattle.std.specs.Cmp as cmp
use Rattle.std.specs.List.{Contains}
use Rattle.std.specs.List.Sorted.{IsPermutation}
use Rattle.std.proofs.lemmas.List.Elements.{All-cons, All-map, All-nil, Contains-get_or}
use Rattle.life_model.specs.Cell.{Cell, plus, opposite}
use Rattle.life_model.specs.Rule.{Rule}
use Rattle.life_model.specs.Generation.{Generation, contains, empty}
use Rattle.life_model.specs.Evolution.{generation}
use Rattle.life_model.specs.Recurrence.{RecursBy}
use Rattle.life_model.specs.Symmetry.{image, translate_of}
use Rattle.life_model.proofs.Generations.{contains-empty, same_members}
use Rattle.life_model.proofs.Moves.{nothing_or_some}
use Rattle.life_model.proofs.Symmetries.{AreInverse, contains-image, plus_keeps}
use Rattle.life_objects.specs.Apart.{AreDisjoint}
use Rattle.life_objects.specs.Drift.{multiple_of}
use Rattle.life_objects.specs.Union.{generations, union, union_of}
use Rattle.life_objects.proofs.Lists.{AllDiffer, AllPairs-map, same_elements}
use Rattle.life_objects.proofs.Members.{found_now}
use Rattle.life_objects.proofs.Recurring.{lives_for_ever, moved_back}
use Rattle.life_objects.proofs.Unions.{contains-union, in_empty, union-empty}
use Rattle.life_parts.specs.Parts.Parts.{AreIndependentParts, IsIndependentPart}
use Rattle.life_parts.specs.Parts.Ties.{AreTied}
use Rattle.life_parts.proofs.PartsLemmas.Ends.{both_in}
use Rattle.life_parts.proofs.PartsLemmas.Evolving.{at_first, classes_at, disjoint_later, first_classes, in_at_first, part_of, together_later}
use Rattle.life_parts.proofs.PartsLemmas.Lasting.{tied_alone}
use Rattle.life_parts.proofs.PartsLemmas.Recurring.{set_recurs_soon}
use Rattle.life_parts.proofs.PartsLemmas.Shifts as shifts

pub some_cell : (Q : Generation) → Q ≢ empty → (a : Cell) × (contains Q a ≡ true)
some_cell Q some = elim (nothing_or_some Q) [ inl none ↦ absurd (some none) | inr cell ↦ cell ]

pub is_some : (Q : Generation) (a : Cell) → contains Q a ≡ true → Q ≢ empty
is_some Q a h none = in_empty a (ap (λ H. contains H a) (sym none) ∙ h)

-- a set that is tied within is its one part
pub one_part : (R : Rule) (P : Generation) → P ≢ empty →
    ((c e : Cell) → contains P c ≡ true → contains P e ≡ true → AreTied R P 0 c 0 e) → AreIndependentParts R P (P ∷ [])
one_part R P some tied = record {
  together = union-empty P;
  parts = All-cons (IsIndependentPart R P) P [] (record {
    nonempty = some;
    within = λ c h. h;
    tied = tied;
    whole = λ c e h t. in_at_first R P e (both_in R P 0 0 c e t).1;
  }) (All-nil (IsIndependentPart R P));
  once = λ i j x h k. absurd (omega arith);
}

pub no_part : (R : Rule) → AreIndependentParts R empty []
no_part R = record { together = refl; parts = All-nil (IsIndependentPart R empty); once = λ i j x h k. absurd (omega arith) }

module _ (R : Rule) (P : Generation) (Qs : List Generation) (are : AreIndependentParts R P Qs) where
  pub part_recurs : (p : ℕ) (d : Cell) → RecursBy R P p d → (Q : Generation) → Contains Qs Q →
      (k : ℕ) × (1 ≤ k) × (k ≤ length Qs) × RecursBy R Q (k * p) (multiple_of k d)
  part_recurs p d r Q one =
      let a = some_cell Q (part_of R P Qs are Q one).nonempty in
      set_recurs_soon R P Qs (first_classes R P Qs are) p d r Q one a.0 (at_first R Q a.0 a.1)

  pub part_is_one : (p : ℕ) (d : Cell) → RecursBy R P p d → (Q : Generation) → Contains Qs Q →
      AreIndependentParts R Q (Q ∷ [])
  part_is_one p d r Q one =
      let part = part_of R P Qs are Q one in
      one_part R Q part.nonempty (λ c e h k.
      tied_alone R P Qs (first_classes R P Qs are) p d r 0 0 c e (part.tied c e h k) Q one (at_first R Q c h))

  module _ (p : ℕ) (d : Cell) (r : RecursBy R P p d) (k : ℕ) where
    later_part : (Q : Generation) → Contains Qs Q → IsIndependentPart R (generation R P k) (generation R Q k)
    later_part Q one =
        let part = part_of R P Qs are Q one in
        let classes = classes_at R P Qs (first_classes R P Qs are) k in
        let again = part_recurs p d r Q one in
        record {
          nonempty = lives_for_ever R Q (again.0 * p) (multiple_of again.0 d) again.3 part.nonempty k;
          within = classes.within Q one;
          tied = λ c e h l.
              shifts.tied_to_phase R P p d r k 0 0 c e
              (shifts.rewritten R P k (0 + k) k (0 + k) c c e e (omega arith) (omega arith) refl refl
              (classes.tied Q one c e h l));
          whole = λ c e h t.
              classes.whole Q one c e h
              (shifts.rewritten R P (0 + k) k (0 + k) k c c e e (omega arith) (omega arith) refl refl
              (shifts.tied_of_phase R P p d r k 0 0 c e t));
        }

    pub later_parts : AreIndependentParts R (generation R P k) (generations R Qs k)
    later_parts = record {
      together = sym (together_later R P Qs (first_classes R P Qs are) k);
      parts = All-map (IsIndependentPart R (generation R P k)) (λ Q. generation R Q k) Qs
          (λ i x h. later_part (get_or Qs i x) (Contains-get_or Qs i x h));
      once = disjoint_later R P Qs (first_classes R P Qs are) are.once k;
    }

module _ (R : Rule) (P : Generation) (Qs As : List Generation) (are : AreIndependentParts R P Qs)
    (too : AreIndependentParts R P As) where
  pub part_of_both : (Q : Generation) → Contains Qs Q → Contains As Q
  part_of_both Q one =
      let part = part_of R P Qs are Q one in
      let a = some_cell Q part.nonempty in
      let found = found_now R As a.0 (ap (λ H. contains H a.0) too.together ∙ part.within a.0 a.1) in
      let other = part_of R P As too found.0 found.1 in
      subst (Contains As) (same_members found.0 Q (λ c.
      cmp.both_ways (contains found.0 c) (contains Q c)
      (λ h. part.whole a.0 c a.1 (other.tied a.0 c found.2 h))
      (λ h. other.whole a.0 c found.2 (part.tied a.0 c a.1 h)))) found.1

pub all_differ : (R : Rule) (P : Generation) (Qs : List Generation) → AreIndependentParts R P Qs → AllDiffer Qs
all_differ R P Qs are i j d h k same =
    let Q = get_or Qs i d in
    let a = some_cell Q (are.parts i d (omega arith)).nonempty in
    are.once i j d h k a.0 a.1 (ap (λ H. contains H a.0) (sym same) ∙ a.1)

pub one_list : (R : Rule) (P : Generation) (Qs As : List Generation) → AreIndependentParts R P Qs →
    AreIndependentParts R P As → IsPermutation Qs As
one_list R P Qs As are too =
    same_elements Qs As (all_differ R P Qs are) (all_differ R P As too) (part_of_both R P Qs As are too)
    (part_of_both R P As Qs too are)

-- ---- maps of the plane

module _ (forth back : Cell → Cell) (undo : AreInverse forth back) where
  union-image : (A B : Generation) → union (image forth A) (image forth B) ≡ image forth (union A B)
  union-image A B = same_members _ _ (λ c.
      contains-union (image forth A) (image forth B) c
      ∙ (λ i. contains-image forth back undo A c i || contains-image forth back undo B c i)
      ∙ sym (contains-union A B (back c)) ∙ sym (contains-image forth back undo (union A B) c))

  empty-image : empty ≡ image forth empty
  empty-image = same_members _ _ (λ c.
      contains-empty c ∙ sym (contains-empty (back c)) ∙ sym (contains-image forth back undo empty c))

  union_of-image : (Qs : List Generation) → union_of (map (image forth) Qs) ≡ image forth (union_of Qs)
  union_of-image [] = empty-image
  union_of-image (Q ∷ Qs) = ap (union (image forth Q)) (union_of-image Qs) ∙ union-image Q (union_of Qs)

  in_image : (G : Generation) (c : Cell) → contains G c ≡ true → contains (image forth G) (forth c) ≡ true
  in_image G c h = contains-image forth back undo G (forth c) ∙ ap (contains G) (undo.there c) ∙ h

  of_image : (G : Generation) (c : Cell) → contains (image forth G) c ≡ true → contains G (back c) ≡ true
  of_image G c h = sym (contains-image forth back undo G c) ∙ h

  module _ (R : Rule) (P : Generation)
      (to : (c e : Cell) → AreTied R P 0 c 0 e → AreTied R (image forth P) 0 (forth c) 0 (forth e))
      (from : (c e : Cell) → AreTied R (image forth P) 0 c 0 e → AreTied R P 0 (back c) 0 (back e)) where
    image_part : (Q : Generation) → IsIndependentPart R P Q → IsIndependentPart R (image forth P) (image forth Q)
    image_part Q part = record {
      nonempty = let a = some_cell Q part.nonempty in is_some (image forth Q) (forth a.0) (in_image Q a.0 a.1);
      within = λ c h. contains-image forth back undo P c ∙ part.within (back c) (of_image Q c h);
      tied = λ c e h k.
          subst (λ z. AreTied R (image forth P) 0 c 0 z) (undo.here e)
          (subst (λ z. AreTied R (image forth P) 0 z 0 (forth (back e))) (undo.here c)
          (to (back c) (back e) (part.tied (back c) (back e) (of_image Q c h) (of_image Q e k))));
      whole = λ c e h t.
          contains-image forth back undo Q e ∙ part.whole (back c) (back e) (of_image Q c h) (from c e t);
    }

    pub image_parts : (Qs : List Generation) → AreIndependentParts R P Qs →
        AreIndependentParts R (image forth P) (map (image forth) Qs)
    image_parts Qs are = record {
      together = union_of-image Qs ∙ ap (image forth) are.together;
      parts = All-map (IsIndependentPart R (image forth P)) (image forth) Qs (λ i d h. image_part (get_or Qs i d) (are.parts i d h));
      once = AllPairs-map AreDisjoint (image forth) Qs (λ i j d h k c x y.
          are.once i j d h k (back c) (of_image (get_or Qs i d) c x) (of_image (get_or Qs j d) c y));
    }

pub moved_parts : (R : Rule) (P : Generation) (v : Cell) (Qs : List Generation) → AreIndependentParts R P Qs →
    AreIndependentParts R (translate_of P v) (map (λ Q. translate_of Q v) Qs)
moved_parts R P v Qs are =
    image_parts (λ c. plus c v) (λ c. plus c (opposite v)) (plus_keeps v).inverse R P
    (shifts.tied_of_moved R P v 0 0)
    (λ c e t.
    subst (λ H. AreTied R H 0 (plus c (opposite v)) 0 (plus e (opposite v))) (moved_back P v)
    (shifts.tied_of_moved R (translate_of P v) (opposite v) 0 0 c e t)) Qs are
