-- What passes the test through a period is held apart all the while, and is made of whole independent parts.
use Rattle.std.proofs.Common.{◌≡◌, ℕ, zero, suc, ◌<◌, ◌≤◌, Bool, true, List, get_or, sym, ap, ◌∙◌, arith}
use Rattle.std.specs.Cmp as cmp
use Rattle.std.specs.List.{Contains, list_any}
use Rattle.std.proofs.lemmas.Bool.{and_parts}
use Rattle.std.proofs.lemmas.List.Elements.{Contains-get_or}
use Rattle.life_model.specs.Cell.{Cell, plus}
use Rattle.life_model.specs.Rule.{Rule}
use Rattle.life_model.specs.Generation.{Generation, contains}
use Rattle.life_model.specs.Evolution.{generation}
use Rattle.life_model.specs.Recurrence.{RecursBy}
use Rattle.life_model.specs.Symmetry.{translate_of}
use Rattle.life_model.proofs.Cells.{plus-opposite}
use Rattle.life_model.proofs.Generations.{same_members}
use Rattle.life_model.proofs.Symmetries.{contains-moved}
use Rattle.life_objects.specs.Apart.{AreDisjoint}
use Rattle.life_objects.specs.Union.{generations, union_of}
use Rattle.life_objects.proofs.Lists.{AllPairs-map}
use Rattle.life_objects.specs.Decided.Tests.{each_below, same_set}
use Rattle.life_objects.proofs.DecidedLemmas.Tests.{each_below_tells, same_set-is}
use Rattle.life_parts.specs.Parts.Apart.{AreHeldApart, HaveBoth}
use Rattle.life_parts.specs.Parts.Ties.{AreTied, IsIn}
use Rattle.life_parts.proofs.PartsLemmas.Apart.{AreSplitAt, from_later, split_next, to_later}
use Rattle.life_parts.proofs.PartsLemmas.Deciding.{have_both_tied}
use Rattle.life_parts.proofs.PartsLemmas.Evolving.{at_first, in_at_first}
use Rattle.life_parts.specs.Independent.Held.{are_held_apart, are_held_apart_through, come_again}
use Rattle.life_parts.proofs.IndependentLemmas.Added.{AreGroupsOf}
use Rattle.life_objects.proofs.Found.{each_passes, owned, owner, some_passes}
use Rattle.life_parts.proofs.IndependentLemmas.Sets.{MakeUp, both_of, groups_differ, groups_make, owner_of, sharing, whole_has}
use Rattle.life_parts.proofs.IndependentLemmas.Telling.{held_by_test}

module _ (R : Rule) (P : Generation) (Hs : List Generation) (are : AreGroupsOf P Hs) where
  pub split_first : AreSplitAt R P Hs 0
  split_first =
      let make = groups_make P Hs are in
      record {
        cover = λ c h. let q = owner_of P Hs make c (in_at_first R P c h) in (q.0, q.1, at_first R q.0 c q.2);
        within = λ Q one c h. at_first R P c (whole_has P Hs make Q one c (in_at_first R Q c h));
        one = λ A B one two c h k. sharing P Hs make A B one two c (in_at_first R A c h) (in_at_first R B c k);
      }

  module _ (n : ℕ) (split : AreSplitAt R P Hs n) where
    pub make_then : MakeUp (generation R P n) (generations R Hs n)
    make_then = record {
      together = same_members _ _ (λ c.
          cmp.both_ways (contains (union_of (generations R Hs n)) c) (contains (generation R P n) c)
          (λ h.
          let A = owner (generations R Hs n) c h in
          let Q = from_later R n Hs A.0 A.1 in
          split.within Q.0 Q.1 c (ap (λ B. contains B c) Q.2 ∙ A.2))
          (λ h.
          let Q = split.cover c h in
          owned (generations R Hs n) (generation R Q.0 n) c (to_later R n Hs Q.0 Q.1) Q.2));
      once = AllPairs-map AreDisjoint (λ Q. generation R Q n) Hs (λ i j d less within c h k.
          let A = get_or Hs i d in
          let B = get_or Hs j d in
          groups_differ P Hs are i j d less within
          (split.one A B (Contains-get_or Hs i d (omega arith)) (Contains-get_or Hs j d within) c h k));
    }

  module _ (p : ℕ) (d : Cell) (passes : are_held_apart_through R P p d Hs ≡ true) where
    abbrev held_at : ℕ → Bool
    held_at n = are_held_apart R (generation R P n) (generations R Hs n)

    tests : (each_below held_at p ≡ true) × (come_again R p d Hs ≡ true)
    unfolding are_held_apart_through
    tests = and_parts (each_below held_at p) (come_again R p d Hs) passes

    held_then : (n : ℕ) → n < p → AreSplitAt R P Hs n → AreHeldApart R (generation R P n) (generations R Hs n)
    held_then n h split =
        held_by_test R (generation R P n) (generations R Hs n) (make_then n split) (each_below_tells held_at p n tests.0 h)

    split_then : (n : ℕ) → n ≤ p → AreSplitAt R P Hs n
    split_then zero h = split_first
    split_then (suc n) h =
        let before = split_then n (omega arith) in
        split_next R P Hs n before (held_then n (omega arith) before)

    pub held : (n : ℕ) → n < p → AreHeldApart R (generation R P n) (generations R Hs n)
    held n h = held_then n h (split_then n (omega arith))

    -- what is of one set a period later was of one set at first
    pub home : (A : Generation) → Contains Hs A → (c e : Cell) → IsIn R A p (plus c d) → IsIn R A p (plus e d) → HaveBoth Hs c e
    unfolding come_again
    home A one c e h k =
        let found = some_passes (λ H. same_set (generation R A p) (translate_of H d)) Hs
        (each_passes (λ A. list_any (λ H. same_set (generation R A p) (translate_of H d)) Hs) Hs tests.1 A one) in
        let same = (same_set-is (generation R A p) (translate_of found.0 d)).0 found.2 in
        let was : (x : Cell) → IsIn R A p (plus x d) → contains found.0 x ≡ true =
        λ x l.
        ap (contains found.0) (sym (plus-opposite x d)) ∙ sym (contains-moved found.0 d (plus x d))
        ∙ ap (λ H. contains H (plus x d)) (sym same) ∙ l in
        both_of P Hs (groups_make P Hs are) found.0 found.1 c e (was c h) (was e k)

    -- what is tied is of one set
    pub tied_of_one : RecursBy R P p d → ((n : ℕ) (e : Cell) → RecursBy R P n e → p ≤ n) → (c e : Cell) →
        AreTied R P 0 c 0 e → HaveBoth Hs c e
    tied_of_one r least c e t = have_both_tied R P Hs p d r least are.together are.once are.some held home c e t
