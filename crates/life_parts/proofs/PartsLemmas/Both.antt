-- The independent parts of two sets that keep apart for ever.
use Rattle.std.proofs.Common.{◌≡◌, ℕ, suc, ◌+◌, ◌-◌, ◌*◌, ◌≤◌, true, List, ◌++◌, get_or, inl, inr, sym, ap, subst, ◌∙◌, arith}
use Rattle.std.specs.Cmp as cmp
use Rattle.std.proofs.lemmas.Int.{ints}
use Rattle.std.proofs.lemmas.List.Elements.{All-append}
use Rattle.life_model.specs.Cell.{Cell, IsNear, origin, plus, opposite}
use Rattle.life_model.specs.Rule.{Rule}
use Rattle.life_model.specs.Generation.{Generation, contains}
use Rattle.life_model.specs.Evolution.{generation}
use Rattle.life_model.specs.Recurrence.{RecursBy}
use Rattle.life_model.specs.Symmetry.{translate_of}
use Rattle.life_model.proofs.Cells.{pair, plus-opposite}
use Rattle.life_model.proofs.Moves.{moved-moved, moved-origin}
use Rattle.life_model.proofs.Near.{next_near}
use Rattle.life_model.proofs.Recurrences.{generation-add}
use Rattle.life_model.proofs.Symmetries.{contains-moved, generation-moved}
use Rattle.life_objects.specs.Apart.{AreApartForEver, AreDisjoint, AreNear}
use Rattle.life_objects.specs.Drift.{multiple_of}
use Rattle.life_objects.specs.Onset.{Recurs}
use Rattle.life_objects.specs.Union.{union}
use Rattle.life_objects.proofs.Distances.{near_through}
use Rattle.life_objects.proofs.Lists.{AllPairs-append}
use Rattle.life_objects.proofs.Moving.{RecursBy-times, generation-times}
use Rattle.life_objects.proofs.Settling.{one_move}
use Rattle.life_objects.proofs.Times.{AreApartForEver-swap, disjoint_ever, generation-union_ever}
use Rattle.life_objects.proofs.Unions.{in_first, in_union, union-comm, union_of-append}
use Rattle.life_parts.specs.Parts.Parts.{AreIndependentParts, IsIndependentPart}
use Rattle.life_parts.specs.Parts.Ties.{AreTied, IsIn}
use Rattle.life_parts.proofs.PartsLemmas.Around.{near_swapped}
use Rattle.life_parts.proofs.PartsLemmas.Along.{near_moved}
use Rattle.life_parts.proofs.PartsLemmas.Evolving.{at_first, part_of}
use Rattle.life_parts.proofs.PartsLemmas.Over.{GoesOver, IsFurther, goes_over}
use Rattle.life_parts.proofs.PartsLemmas.Shifts.{rewritten}

-- each generation of S, s generations later, is moved by w
abbrev IsShift : Rule → Generation → ℕ → Cell → Type 0
IsShift R S s w = (n : ℕ) → generation R S (n + s) ≡ translate_of (generation R S n) w

far_moved : (c d w : Cell) → AreNear c (plus d (opposite w)) → AreNear (plus c w) d
far_moved c d w h = record {
  left = omega (arith, ints);
  right = omega (arith, ints);
  above = omega (arith, ints);
  below = omega (arith, ints);
}

module _ (R : Rule) (S : Generation) where
  no_shift : IsShift R S 0 origin
  no_shift n = ap (generation R S) (let e : n + 0 ≡ n = omega arith in e) ∙ sym (moved-origin (generation R S n))

  in_shifted : (s : ℕ) (w : Cell) → IsShift R S s w → (n : ℕ) (z : Cell) →
      contains (generation R S (n + s)) z ≡ contains (generation R S n) (plus z (opposite w))
  in_shifted s w shift n z = ap (λ H. contains H z) (shift n) ∙ contains-moved (generation R S n) w z

  goes_with : (s : ℕ) (w : Cell) → IsShift R S s w → (n : ℕ) (c : Cell) → IsIn R S n c → IsIn R S (n + s) (plus c w)
  goes_with s w shift n c h =
      in_shifted s w shift n (plus c w) ∙ ap (contains (generation R S n)) (plus-opposite c w) ∙ h

  module _ (q : ℕ) (f : Cell) (r : RecursBy R S q f) (j : ℕ) (s : ℕ) (w : Cell) (shift : IsShift R S s w) where
    -- and j periods later
    more_shift : IsShift R S (s + j * q) (plus w (multiple_of j f))
    more_shift n =
        ap (generation R S) (let e : n + (s + j * q) ≡ j * q + (n + s) = omega arith in e)
        ∙ sym (generation-add R S (j * q) (n + s))
        ∙ ap (λ H. generation R H (n + s)) (generation-times R S q f r j)
        ∙ generation-moved R S (multiple_of j f) (n + s)
        ∙ ap (λ H. translate_of H (multiple_of j f)) (shift n)
        ∙ moved-moved (generation R S n) w (multiple_of j f)

    further : (T : Generation) → RecursBy R T (suc j * q) (multiple_of (suc j) f) → IsFurther R T (IsShift R S) s w q f
    further T recurs = record {
      further = s + j * q;
      way = plus w (multiple_of j f);
      period = suc j * q;
      move = multiple_of (suc j) f;
      shift = more_shift;
      recurs = recurs;
      times = omega arith;
      places = λ c. pair (omega (arith, ints)) (omega (arith, ints));
    }

-- a cell comes from one that it touches
came : (R : Rule) (P : Generation) (n : ℕ) (x : Cell) → IsIn R P (suc n) x → (g : Cell) × IsIn R P n g × IsNear x g
unfolding generation
came R P n x h = next_near R (generation R P n) x h

module _ (R : Rule) (P Q : Generation) (far : AreApartForEver R P Q) where
  abbrev U : Generation
  U = union P Q

  in_whole : (n : ℕ) (c : Cell) → IsIn R P n c → IsIn R U n c
  in_whole n c h =
      ap (λ H. contains H c) (generation-union_ever R n P Q far) ∙ in_first (generation R P n) (generation R Q n) c h

  -- near a cell of P there is nothing else
  near_alone : (n : ℕ) (c z : Cell) → IsIn R P n c → AreNear c z → IsIn R U n z → IsIn R P n z
  near_alone n c z h near k =
      elim (in_union (generation R P n) (generation R Q n) z (ap (λ H. contains H z) (sym (generation-union_ever R n P Q far)) ∙ k)) [
        | inl p ↦ p
        | inr q ↦ absurd (far n c z h q near)
      ]

  same_alone : (n : ℕ) (c z : Cell) → IsIn R P n c → AreNear c z → contains (generation R U n) z ≡ contains (generation R P n) z
  same_alone n c z h near =
      cmp.both_ways (contains (generation R U n) z) (contains (generation R P n) z) (near_alone n c z h near) (in_whole n z)

  module _ (x : Cell) (in_P : contains P x ≡ true) (j : ℕ) where
    -- P and the whole go one way
    one_way : (p q : ℕ) (d f : Cell) → RecursBy R P p d → RecursBy R U q f → multiple_of q d ≡ multiple_of p f
    one_way p q d f r u =
        one_move R U P in_whole (p * q) (multiple_of p f) (multiple_of q d) (RecursBy-times R U q f u p r.later)
        (subst (λ k. RecursBy R P k (multiple_of q d)) (let e : q * p ≡ p * q = omega arith in e)
        (RecursBy-times R P p d r q u.later)) x in_P

    to_whole : (d : Cell) → RecursBy R U (suc j) d → GoesOver R P U (IsShift R P)
    to_whole d u = record {
      alike = λ s w shift n c z h k near.
          same_alone (n + s) (plus c w) z (goes_with R P s w shift n c h) (far_moved c z w near)
          ∙ in_shifted R P s w shift n z;
      back = λ s w shift n c y h k near. in_whole (n + s) (plus c w) (goes_with R P s w shift n c h);
      again = λ s w shift q f r.
          further R P q f r j s w shift U
          (subst (RecursBy R U (suc j * q)) (sym (one_way q (suc j) f d r u))
          (subst (λ k. RecursBy R U k (multiple_of q d)) (let e : q * suc j ≡ suc j * q = omega arith in e)
          (RecursBy-times R U (suc j) d u q r.later)));
    }

    from_whole : (d : Cell) → RecursBy R P (suc j) d → GoesOver R U P (IsShift R U)
    from_whole d r = record {
      alike = λ s w shift n c z h k near.
          sym (same_alone (n + s) (plus c w) z k (far_moved c z w near)) ∙ in_shifted R U s w shift n z;
      back = λ s w shift n c y h k near.
          let before : suc n + s ≡ suc (n + s) = omega arith in
          let g = came R P (n + s) (plus y w) (ap (λ m. contains (generation R P m) (plus y w)) (sym before) ∙ k) in
          near_alone (n + s) g.0 (plus c w) g.1
          (near_through (plus y w) g.0 (plus c w) g.2 (near_swapped (plus c w) (plus y w) (near_moved c y w near)))
          (goes_with R U s w shift n c h);
      again = λ s w shift q f u.
          further R U q f u j s w shift P
          (subst (RecursBy R P (suc j * q)) (one_way (suc j) q d f r u)
          (subst (λ k. RecursBy R P k (multiple_of q d)) (let e : q * suc j ≡ suc j * q = omega arith in e)
          (RecursBy-times R P (suc j) d r q u.later)));
    }

  module _ (again : Recurs R P) (all_again : Recurs R U) where
    a_step_less : (n : ℕ) → 1 ≤ n → (j : ℕ) × (suc j ≡ n)
    a_step_less n h = (n - 1, omega arith)

    now : (B : Generation) (c e : Cell) → AreTied R B (0 + 0) (plus c origin) (0 + 0) (plus e origin) → AreTied R B 0 c 0 e
    now B c e t =
        rewritten R B (0 + 0) 0 (0 + 0) 0 (plus c origin) c (plus e origin) e (omega arith) (omega arith)
        (pair (omega (arith, ints)) (omega (arith, ints))) (pair (omega (arith, ints)) (omega (arith, ints))) t

    at_origin : (B : Generation) (c : Cell) → contains B c ≡ true → IsIn R B (0 + 0) (plus c origin)
    at_origin B c h = goes_with R B 0 origin (no_shift R B) 0 c (at_first R B c h)

    -- what is tied in P is so in the whole
    tied_in_whole : (c e : Cell) → contains P c ≡ true → AreTied R P 0 c 0 e → AreTied R U 0 c 0 e
    tied_in_whole c e h t =
        let j = a_step_less all_again.steps all_again.recurs.later in
        now U c e
        ((goes_over R P U (IsShift R P)
        (to_whole c h j.0 all_again.by (subst (λ k. RecursBy R U k all_again.by) (sym j.1) all_again.recurs))
        0 0 c e t 0 origin (no_shift R P)).0 (at_origin U c (in_first P Q c h)))

    -- what is tied to P in the whole is so in P
    tied_in_part : (c e : Cell) → contains P c ≡ true → AreTied R U 0 c 0 e → AreTied R P 0 c 0 e
    tied_in_part c e h t =
        let j = a_step_less again.steps again.recurs.later in
        now P c e
        ((goes_over R U P (IsShift R U)
        (from_whole c h j.0 again.by (subst (λ k. RecursBy R P k again.by) (sym j.1) again.recurs))
        0 0 c e t 0 origin (no_shift R U)).0 (at_origin P c h))

    pub part_of_whole : (A : Generation) → IsIndependentPart R P A → IsIndependentPart R U A
    part_of_whole A part = record {
      nonempty = part.nonempty;
      within = λ c h. in_first P Q c (part.within c h);
      tied = λ c e h k. tied_in_whole c e (part.within c h) (part.tied c e h k);
      whole = λ c e h t. part.whole c e h (tied_in_part c e (part.within c h) t);
    }

pub parts_of_both : (R : Rule) (P Q : Generation) (Ps Qs : List Generation) → Recurs R P → Recurs R Q →
    Recurs R (union P Q) → AreApartForEver R P Q → AreIndependentParts R P Ps → AreIndependentParts R Q Qs →
    AreIndependentParts R (union P Q) (Ps ++ Qs)
parts_of_both R P Q Ps Qs again too both far are others = record {
  together = union_of-append Ps Qs ∙ (λ i. union (are.together i) (others.together i));
  parts = All-append (IsIndependentPart R (union P Q)) Ps Qs
      (λ i d h. part_of_whole R P Q far again both (get_or Ps i d) (are.parts i d h))
      (λ i d h. subst (λ H. IsIndependentPart R H (get_or Qs i d)) (union-comm Q P)
      (part_of_whole R Q P (AreApartForEver-swap R P Q far) too (subst (Recurs R) (union-comm P Q) both) (get_or Qs i d) (others.parts i d h)));
  once = AllPairs-append AreDisjoint Ps Qs are.once others.once (λ A B one two c h k.
      disjoint_ever R 0 P Q far c
      (at_first R P c ((part_of R P Ps are A one).within c h))
      (at_first R Q c ((part_of R Q Qs others B two).within c k)));
}
