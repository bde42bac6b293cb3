-- Independent parts evolve alone.
use Rattle.std.proofs.Common.{◌≡◌, ℕ, zero, suc, true, List, get_or, sym, ap, ◌∙◌, arith}
use Rattle.std.specs.List.{AllPairs, Contains}
use Rattle.std.specs.Cmp as cmp
use Rattle.std.proofs.lemmas.List.Elements.{All-contains, Contains-get_or}
use Rattle.life_model.specs.Cell.{Cell}
use Rattle.life_model.specs.Rule.{Rule}
use Rattle.life_model.specs.Generation.{Generation, contains}
use Rattle.life_model.specs.Evolution.{generation}
use Rattle.life_model.proofs.Generations.{same_members}
use Rattle.life_model.proofs.Recurrences.{generation-zero}
use Rattle.life_objects.specs.Apart.{AreDisjoint}
use Rattle.life_objects.specs.Union.{generations, union_of}
use Rattle.life_objects.proofs.Many.{pairs_then}
use Rattle.life_objects.proofs.Members.{found_in, found_now, in_list}
use Rattle.life_parts.specs.Parts.Parts.{AreIndependentParts, IsIndependentPart}
use Rattle.life_parts.specs.Parts.Ties.{AreTied, IsIn, itself, swapped, through}
use Rattle.life_parts.proofs.PartsLemmas.Classed.{AreClassesAt, classes_then, made_of, same_sets}
use Rattle.life_parts.proofs.PartsLemmas.Ends.{both_in}

module _ (R : Rule) where
  pub in_at_first : (Q : Generation) (c : Cell) → IsIn R Q 0 c → contains Q c ≡ true
  in_at_first Q c h = ap (λ H. contains H c) (sym (generation-zero R Q)) ∙ h

  pub at_first : (Q : Generation) (c : Cell) → contains Q c ≡ true → IsIn R Q 0 c
  at_first Q c h = ap (λ H. contains H c) (generation-zero R Q) ∙ h

module _ (R : Rule) (P : Generation) (Qs : List Generation) where
  module _ (first : AreClassesAt R P Qs 0) where
    pub classes_at : (n : ℕ) → AreClassesAt R P Qs n
    classes_at zero = first
    classes_at (suc n) = classes_then R P Qs n (classes_at n)

    -- each cell of a later generation of a set comes from a cell of the set
    pub came_from : (Q : Generation) → Contains Qs Q → (n : ℕ) (x : Cell) → IsIn R Q n x →
        (c : Cell) × IsIn R Q 0 c × AreTied R P 0 c n x
    came_from Q one zero x h = (x, h, itself 0 x (first.within Q one x h))
    came_from Q one (suc n) x h =
        let c = (made_of R P Qs n (classes_at n) Q one x h).1 in
        let b = came_from Q one n c.0 c.1 in
        (b.0, b.1, through 0 n (suc n) b.0 c.0 x b.2 c.2)

    pub tied_later : (Q : Generation) → Contains Qs Q → (n : ℕ) (c x : Cell) → IsIn R Q 0 c → IsIn R Q n x →
        AreTied R P 0 c n x
    tied_later Q one n c x h k =
        let b = came_from Q one n x k in
        through 0 0 n c b.0 x (first.tied Q one c b.0 h b.1) b.2

    pub whole_later : (Q : Generation) → Contains Qs Q → (n : ℕ) (c x : Cell) → IsIn R Q 0 c →
        AreTied R P 0 c n x → IsIn R Q n x
    whole_later Q one n c x h t =
        let q = (classes_at n).cover x (both_in R P 0 n c x t).1 in
        let b = came_from q.0 q.1 n x q.2 in
        let back = through 0 n 0 c x b.0 t (swapped 0 n b.0 x b.2) in
        let same : generation R Q 0 ≡ generation R q.0 0 =
        same_sets R P Qs 0 first Q q.0 one q.1 b.0 (first.whole Q one c b.0 h back) b.1 in
        let sets : Q ≡ q.0 = sym (generation-zero R Q) ∙ same ∙ generation-zero R q.0 in
        ap (λ H. contains (generation R H n) x) sets ∙ q.2

    pub together_later : (n : ℕ) → generation R P n ≡ union_of (generations R Qs n)
    together_later n = same_members _ _ (λ c.
        cmp.both_ways (contains (generation R P n) c) (contains (union_of (generations R Qs n)) c)
        (λ h. let q = (classes_at n).cover c h in in_list R n Qs q.0 c q.1 q.2)
        (λ h. let q = found_in R n Qs c h in (classes_at n).within q.0 q.1 c q.2))

    pub disjoint_later : AllPairs AreDisjoint Qs → (n : ℕ) → AllPairs AreDisjoint (generations R Qs n)
    disjoint_later once n =
        pairs_then R AreDisjoint n Qs (λ i j d h k c x y.
        let A = get_or Qs i d in
        let B = get_or Qs j d in
        let one : Contains Qs A = Contains-get_or Qs i d (omega arith) in
        let two : Contains Qs B = Contains-get_or Qs j d k in
        let a = came_from A one n c x in
        let b = came_from B two n c y in
        let tie = through 0 n 0 a.0 c b.0 a.2 (swapped 0 n b.0 c b.2) in
        once i j d h k b.0 (in_at_first R A b.0 (first.whole A one a.0 b.0 a.1 tie)) (in_at_first R B b.0 b.1))

  module _ (are : AreIndependentParts R P Qs) where
    pub part_of : (Q : Generation) → Contains Qs Q → IsIndependentPart R P Q
    part_of Q one = All-contains (IsIndependentPart R P) Qs Q are.parts one

    pub first_classes : AreClassesAt R P Qs 0
    first_classes = record {
      cover = λ c h.
          let q = found_now R Qs c (ap (λ H. contains H c) are.together ∙ in_at_first R P c h) in
          (q.0, q.1, at_first R q.0 c q.2);
      within = λ Q one c h. at_first R P c ((part_of Q one).within c (in_at_first R Q c h));
      tied = λ Q one c d h k. (part_of Q one).tied c d (in_at_first R Q c h) (in_at_first R Q d k);
      whole = λ Q one c d h t. at_first R Q d ((part_of Q one).whole c d (in_at_first R Q c h) t);
    }
