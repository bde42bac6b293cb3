-- Each independent part of a set that recurs recurs too.
use Rattle.std.proofs.Common.{◌≡◌, ℕ, zero, suc, ◌+◌, ◌-◌, ◌*◌, ◌<◌, ◌≤◌, List, length, get_or, add-mul, sym, refl, ap, ◌∙◌, arith}
use Rattle.std.proofs.lemmas.Int.{ints}
use Rattle.std.specs.Cmp as cmp
use Rattle.std.specs.List.{Contains, HoldsAt}
use Rattle.std.proofs.lemmas.List.Elements.{at_from_Contains}
use Rattle.life_model.specs.Cell.{Cell, plus, opposite}
use Rattle.life_model.specs.Rule.{Rule}
use Rattle.life_model.specs.Generation.{Generation, contains}
use Rattle.life_model.specs.Evolution.{generation}
use Rattle.life_model.specs.Recurrence.{RecursBy}
use Rattle.life_model.specs.Symmetry.{translate_of}
use Rattle.life_model.proofs.Cells.{pair, plus-assoc, plus-opposite_first}
use Rattle.life_model.proofs.Generations.{same_members}
use Rattle.life_model.proofs.Symmetries.{contains-moved}
use Rattle.life_objects.specs.Drift.{multiple_of}
use Rattle.life_objects.proofs.Moving.{RecursBy-times}
use Rattle.life_parts.specs.Parts.Ties.{AreTied, IsIn, before, swapped, through}
use Rattle.life_parts.proofs.PartsLemmas.Classed.{AreClassesAt}
use Rattle.life_parts.proofs.PartsLemmas.Ends.{contains-later}
use Rattle.life_parts.proofs.PartsLemmas.Evolving.{at_first, came_from, classes_at, in_at_first, whole_later}
use Rattle.life_parts.proofs.PartsLemmas.Repeats.{two_alike}
use Rattle.life_parts.proofs.PartsLemmas.Shifts as shifts

multiple-add : (i k : ℕ) (a d : Cell) → plus a (multiple_of (k + i) d) ≡ plus (plus a (multiple_of k d)) (multiple_of i d)
multiple-add zero k a d =
    ap (λ n. plus a (multiple_of n d)) (let e : k + 0 ≡ k = omega arith in e) ∙ pair (omega (arith, ints)) (omega (arith, ints))
multiple-add (suc i) k a d =
    ap (λ n. plus a (multiple_of n d)) (let e : k + suc i ≡ suc (k + i) = omega arith in e)
    ∙ sym (plus-assoc a (multiple_of (k + i) d) d) ∙ ap (λ c. plus c d) (multiple-add i k a d)
    ∙ plus-assoc (plus a (multiple_of k d)) (multiple_of i d) d

module _ (R : Rule) (P : Generation) (Qs : List Generation) (first : AreClassesAt R P Qs 0) where
  module _ (p : ℕ) (d : Cell) (r : RecursBy R P p d) where
    module _ (a : Cell) (in_P : IsIn R P 0 a) where
      -- a, i periods later
      abbrev then : ℕ → Cell
      then i = plus a (multiple_of i d)

      in_then : (i : ℕ) → IsIn R P (suc i * p) (then (suc i))
      in_then i =
          ap (λ n. contains (generation R P n) (then (suc i))) (let e : suc i * p ≡ 0 + suc i * p = omega arith in e)
          ∙ contains-later R P (suc i * p) (multiple_of (suc i) d) (RecursBy-times R P p d r (suc i) (omega arith)) 0 a ∙ in_P

      -- the set that has it then
      owner : (i : ℕ) → (Q : Generation) × Contains Qs Q × IsIn R Q (suc i * p) (then (suc i))
      owner i = (classes_at R P Qs first (suc i * p)).cover (then (suc i)) (in_then i)

      place : (i : ℕ) → (k : ℕ) × (k < length Qs) × HoldsAt (λ y. y ≡ (owner i).0) Qs k
      place i = at_from_Contains Qs (owner i).0 (owner i).1

      twice : (i : ℕ) × (j : ℕ) × (i < j) × (j ≤ length Qs) × ((place i).0 ≡ (place j).0)
      twice = two_alike (length Qs) (λ i. (place i).0) (λ i h. (place i).1)

      pub rounds : ℕ
      rounds = twice.1 - twice.0

      pub some_rounds : 1 ≤ rounds
      unfolding rounds
      some_rounds = let h : twice.0 < twice.1 = twice.2 in omega arith

      pub few_rounds : rounds ≤ length Qs
      unfolding rounds
      few_rounds = let h : twice.1 ≤ length Qs = twice.3 in omega arith

      one_owner : (owner twice.0).0 ≡ (owner twice.1).0
      one_owner =
          sym ((place twice.0).2 P) ∙ ap (λ k. get_or Qs k P) twice.4 ∙ (place twice.1).2 P

      -- `rounds` periods later a is tied to itself
      pub back_to_itself : AreTied R P 0 a (rounds * p) (plus a (multiple_of rounds d))
      unfolding rounds
      back_to_itself =
          let i = twice.0 in
          let j = twice.1 in
          let h : i < j = twice.2 in
          let x = owner i in
          let y = owner j in
          let there : IsIn R x.0 (suc j * p) (then (suc j)) =
          ap (λ H. contains (generation R H (suc j * p)) (then (suc j))) one_owner ∙ y.2 in
          let b = came_from R P Qs first x.0 x.1 (suc i * p) (then (suc i)) x.2 in
          let c = came_from R P Qs first x.0 x.1 (suc j * p) (then (suc j)) there in
          let tie : AreTied R P (suc i * p) (then (suc i)) (suc j * p) (then (suc j)) =
          through (suc i * p) 0 (suc j * p) (then (suc i)) b.0 (then (suc j)) (swapped 0 (suc i * p) b.0 (then (suc i)) b.2)
          (through 0 0 (suc j * p) b.0 c.0 (then (suc j)) (first.tied x.0 x.1 b.0 c.0 b.1 c.1) c.2) in
          before (suc i * p) (multiple_of (suc i) d) (RecursBy-times R P p d r (suc i) (omega arith)) 0 ((j - i) * p)
          a (plus a (multiple_of (j - i) d))
          (shifts.rewritten R P (suc i * p) (0 + suc i * p) (suc j * p) ((j - i) * p + suc i * p) (then (suc i)) (then (suc i))
          (then (suc j)) (plus (plus a (multiple_of (j - i) d)) (multiple_of (suc i) d)) (omega arith)
          (ap (λ n. n * p) (let e : suc j ≡ (j - i) + suc i = omega arith in e) ∙ add-mul (j - i) (suc i) p) (let e : then (suc i) ≡ then (suc i) = refl in e)
          (ap (λ n. plus a (multiple_of n d)) (let e : suc j ≡ (j - i) + suc i = omega arith in e)
          ∙ multiple-add (suc i) (j - i) a d) tie)

    -- The set that has a cell a period later is the set that has it now, moved.
    pub moved_set : (Q A : Generation) → Contains Qs Q → Contains Qs A → (a : Cell) → IsIn R Q 0 a →
        IsIn R A p (plus a d) → generation R A p ≡ translate_of Q d
    moved_set Q A one other a in_Q in_A = same_members _ _ (λ x.
        cmp.both_ways (contains (generation R A p) x) (contains (translate_of Q d) x)
        (λ h.
        let y = plus x (opposite d) in
        let t = (classes_at R P Qs first p).tied A other (plus a d) x in_A h in
        let v = before p d r 0 0 a y
        (shifts.rewritten R P p (0 + p) p (0 + p) (plus a d) (plus a d) x (plus y d)
        (omega arith) (omega arith) refl (sym (plus-opposite_first x d)) t) in
        contains-moved Q d x ∙ in_at_first R Q y (first.whole Q one a y in_Q v))
        (λ h.
        let y = plus x (opposite d) in
        let in_y = at_first R Q y (sym (contains-moved Q d x) ∙ h) in
        let t = shifts.tied_later R P p d r 0 0 a y (first.tied Q one a y in_Q in_y) in
        let u = shifts.rewritten R P (0 + p) p (0 + p) p (plus a d) (plus a d) (plus y d) x
        (omega arith) (omega arith) refl (plus-opposite_first x d) t in
        (classes_at R P Qs first p).whole A other (plus a d) x in_A u))

  module _ (p : ℕ) (d : Cell) (r : RecursBy R P p d) (Q : Generation) (one : Contains Qs Q) (a : Cell)
      (in_Q : IsIn R Q 0 a) where
    abbrev pub k : ℕ
    k = rounds p d r a (first.within Q one a in_Q)

    pub set_recurs : RecursBy R Q (k * p) (multiple_of k d)
    set_recurs =
        let in_P = first.within Q one a in_Q in
        let far = RecursBy-times R P p d r k (some_rounds p d r a in_P) in
        record {
          later = far.later;
          again = moved_set (k * p) (multiple_of k d) far Q Q one one a in_Q
              (whole_later R P Qs first Q one (k * p) a (plus a (multiple_of k d)) in_Q (back_to_itself p d r a in_P));
        }

    pub set_recurs_soon : (k : ℕ) × (1 ≤ k) × (k ≤ length Qs) × RecursBy R Q (k * p) (multiple_of k d)
    set_recurs_soon =
        let in_P = first.within Q one a in_Q in
        (k, some_rounds p d r a in_P, few_rounds p d r a in_P, set_recurs)
