-- The sets that objects count as.
use Rattle.std.proofs.Common.{◌≡◌, ℕ, ◌≤◌, Bool, true, false, cond, List, [], ◌∷◌, count_by, flat_map, inl, inr, refl, sym, subst, ◌∙◌, arith}
use Rattle.std.specs.List.{All, Contains}
use Rattle.std.specs.List.Sorted.{IsPermutation}
use Rattle.std.proofs.lemmas.List.Elements.{All-contains}
use Rattle.std.proofs.lemmas.List.Sorted.{sum_by-IsPermutation}
use Rattle.life_answer.specs.Counted.{all_come_again, code_bound, counted_as, counted_of}
use Rattle.life_answer.proofs.CountedSets.{come_again_tells}
use Rattle.life_answer.proofs.Permuted.{count-flat_map}
use Rattle.life_model.specs.Generation.{Generation}
use Rattle.life_model.specs.Rule.{Rule}
use Rattle.life_objects.specs.Ash.{IsObject, RecursWithin}
use Rattle.life_objects.specs.Limits.{objects_bound_limit}
use Rattle.life_objects.proofs.Lists.{head_or_later}
use Rattle.life_parts.specs.Independent.Independent.{independent_parts_of}
use Rattle.life_objects.proofs.Found.{of_flat_map}
use Rattle.census_merge.specs.Runs.ObjectsOfAsh.{coming_bound}

-- ---- how many of them there are

pub count_in_any_order : {A B : Type 0} (p : B → Bool) (f : A → List B) (xs ys : List A) → IsPermutation xs ys →
    count_by p (flat_map f ys) ≡ count_by p (flat_map f xs)
count_in_any_order p f xs ys order =
    count-flat_map p f ys ∙ sum_by-IsPermutation (λ x. count_by p (f x)) xs ys order ∙ sym (count-flat_map p f xs)

-- ---- each of them recurs

pub sooner : (near : Bool) (b : ℕ) → coming_bound near b ≤ code_bound b
sooner true b = omega arith
sooner false b = omega arith

wider : (R : Rule) (b c : ℕ) (Q : Generation) → b ≤ c → RecursWithin R b Q → RecursWithin R c Q
wider R b c Q le again =
    let within : again.steps ≤ b = again.within in
    record { steps = again.steps; by = again.by; within = omega arith; recurs = again.recurs }

pub only_one : (P Q : Generation) → Contains (P ∷ []) Q → P ≡ Q
only_one P Q one =
    elim (head_or_later P Q [] one.0 one.1 one.2) [
      | inl same ↦ same
      | inr later ↦ let none = later.1 in absurd (omega arith)
    ]

module _ (R : Rule) (b : ℕ) where
  module _ (P : Generation) (object : IsObject R b P) (Q : Generation) where
    by_answer : (Qs : List Generation) (t : Bool) → all_come_again R objects_bound_limit Qs ≡ t →
        Contains (cond t Qs (P ∷ [])) Q → RecursWithin R (code_bound b) Q
    by_answer Qs true e one =
        wider R objects_bound_limit (code_bound b) Q (omega arith)
        (All-contains (RecursWithin R objects_bound_limit) Qs Q (come_again_tells R objects_bound_limit Qs e) one)
    by_answer Qs false e one =
        subst (RecursWithin R (code_bound b)) (only_one P Q one) (wider R b (code_bound b) P (omega arith) object.recurs)

    of_object : (near : Bool) → Contains (counted_as near R b P) Q → RecursWithin R (coming_bound near b) Q
    of_object true one = subst (RecursWithin R b) (only_one P Q one) object.recurs
    of_object false one =
        let Qs = independent_parts_of R b P in
        by_answer Qs (all_come_again R objects_bound_limit Qs) refl one

  pub counted_recurs : (near : Bool) (Ps : List Generation) → All (IsObject R b) Ps → (Q : Generation) →
      Contains (counted_of near R b Ps) Q → RecursWithin R (coming_bound near b) Q
  counted_recurs near Ps objects Q one =
      let from = of_flat_map (counted_as near R b) Ps Q one in
      of_object from.0 (All-contains (IsObject R b) Ps from.0 objects from.1) Q near from.2

  pub counted_told : (near : Bool) (Q : Generation) → RecursWithin R (coming_bound near b) Q → RecursWithin R (code_bound b) Q
  counted_told near Q again = wider R (coming_bound near b) (code_bound b) Q (sooner near b) again
