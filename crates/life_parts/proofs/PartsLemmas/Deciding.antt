-- Sets that are tied within and held apart for a period are the independent parts.
use Rattle.std.proofs.Common.{◌≡◌, ◌≢◌, ℕ, zero, suc, ◌+◌, ◌-◌, ◌*◌, ◌/◌, ◌<◌, ◌≤◌, true, List, get_or, inl, inr, sym, refl, ap, subst, ◌∙◌, arith}
use Rattle.std.specs.List.{All, AllPairs, Contains}
use Rattle.std.proofs.lemmas.Bool.{cases_lt}
use Rattle.std.proofs.lemmas.List.Elements.{Contains-get_or}
use Rattle.life_model.specs.Cell.{Cell, plus}
use Rattle.life_model.specs.Rule.{Rule}
use Rattle.life_model.specs.Generation.{Generation, contains, empty}
use Rattle.life_model.specs.Evolution.{generation}
use Rattle.life_model.specs.Recurrence.{RecursBy}
use Rattle.life_model.specs.Symmetry.{translate_of}
use Rattle.life_model.proofs.Moves.{moved-moved, moved-origin, nothing_or_some}
use Rattle.life_model.proofs.Recurrences.{generation-add, generation-zero}
use Rattle.life_model.proofs.Symmetries.{generation-moved}
use Rattle.life_objects.specs.Apart.{AreDisjoint}
use Rattle.life_objects.specs.Drift.{multiple_of}
use Rattle.life_objects.specs.Union.{generations, union_of}
use Rattle.life_objects.proofs.Lists.{AllDiffer, related_or_same}
use Rattle.life_objects.proofs.Members.{found_now, in_list_now}
use Rattle.life_parts.specs.Parts.Apart.{AreHeldApart, HaveBoth}
use Rattle.life_parts.specs.Parts.Parts.{AreIndependentParts}
use Rattle.life_parts.specs.Parts.Ties.{AreTied, IsIn}
use Rattle.life_parts.proofs.PartsLemmas.Apart.{AreSplitAt, split_next}
use Rattle.life_parts.proofs.PartsLemmas.Evolving.{at_first, in_at_first}
use Rattle.life_parts.proofs.PartsLemmas.Following.{AreFollowed, ReachBack, tied_to_one, tied_without}
use Rattle.life_parts.proofs.PartsLemmas.Holding.{held_later}
use Rattle.life_parts.proofs.PartsLemmas.Rounds.{came_by, comes_to, which_multiple}

module _ (R : Rule) (P : Generation) (Qs : List Generation) (p : ℕ) (d : Cell) (r : RecursBy R P p d)
    (least : (n : ℕ) (e : Cell) → RecursBy R P n e → p ≤ n)
    (together : union_of Qs ≡ P) (once : AllPairs AreDisjoint Qs) (some : All (λ Q. Q ≢ empty) Qs)
    (held : (n : ℕ) → n < p → AreHeldApart R (generation R P n) (generations R Qs n))
    (home : (Q : Generation) → Contains Qs Q → (c e : Cell) → IsIn R Q p (plus c d) → IsIn R Q p (plus e d) → HaveBoth Qs c e) where
  -- sets that share a cell are one
  shared : (A B : Generation) → Contains Qs A → Contains Qs B → (c : Cell) → contains A c ≡ true → contains B c ≡ true → A ≡ B
  shared A B one two c h k =
      elim (related_or_same AreDisjoint (λ X Y far c h k. far c k h) Qs A B one two once) [
        | inl far ↦ absurd (far c h k)
        | inr same ↦ same
      ]

  split_first : AreSplitAt R P Qs 0
  split_first = record {
    cover = λ c h.
        let q = found_now R Qs c (ap (λ H. contains H c) together ∙ in_at_first R P c h) in
        (q.0, q.1, at_first R q.0 c q.2);
    within = λ Q one c h. at_first R P c (ap (λ H. contains H c) (sym together) ∙ in_list_now R Qs Q c one (in_at_first R Q c h));
    one = λ A B one two c h k. shared A B one two c (in_at_first R A c h) (in_at_first R B c k);
  }

  differ : AllDiffer Qs
  differ i j x h k same =
      elim (nothing_or_some (get_or Qs j x)) [
        | inl none ↦ some j x k none
        | inr cell ↦ once i j x h k cell.0 (ap (λ H. contains H cell.0) same ∙ cell.1) cell.1
      ]

  split_soon : (n : ℕ) → n ≤ p → AreSplitAt R P Qs n
  split_soon zero h = split_first
  split_soon (suc n) h = split_next R P Qs n (split_soon n (omega arith)) (held n (omega arith))

  pub record AreSplitAndHeld (n : ℕ) : Type 0 where
    pub split : AreSplitAt R P Qs n
    pub apart : AreHeldApart R (generation R P n) (generations R Qs n)

  after : (m : ℕ) → ((n : ℕ) → n < m → AreSplitAndHeld n) → AreSplitAt R P Qs m
  after zero earlier = split_first
  after (suc n) earlier = let e = earlier n (omega arith) in split_next R P Qs n e.split e.apart

  held_after : (m : ℕ) → ((n : ℕ) → n < m → AreSplitAndHeld n) → AreHeldApart R (generation R P m) (generations R Qs m)
  held_after m earlier =
      elim (cases_lt m p) [
        | inl soon ↦ held m soon
        | inr late ↦
            let one : 1 ≤ p = r.later in
            let k = m - p in
            let same : k + p ≡ m = omega arith in
            let e = earlier k (omega arith) in
            subst (λ n. AreHeldApart R (generation R P n) (generations R Qs n)) same
            (held_later R P Qs p d r k e.split (subst (AreSplitAt R P Qs) (sym same) (after m earlier)) e.apart
            (λ Q listed c h. came_by R P Qs p d r split_soon some differ home Q listed k c h))
      ]

  upto : (m n : ℕ) → n < m → AreSplitAndHeld n
  upto zero n h = absurd (omega arith)
  upto (suc m) n h =
      elim (cases_lt n m) [
        | inl less ↦ upto m n less
        | inr no_less ↦
            let same : m ≡ n = omega arith in
            subst AreSplitAndHeld same (record { split = after m (upto m); apart = held_after m (upto m) })
      ]

  at : (n : ℕ) → AreSplitAndHeld n
  at n = upto (suc n) n (omega arith)

  moved_again : (k : ℕ) (Q B A : Generation) → generation R B (k * p) ≡ translate_of Q (multiple_of k d) →
      generation R A p ≡ translate_of B d → generation R A (suc k * p) ≡ translate_of Q (multiple_of (suc k) d)
  moved_again k Q B A there here =
      ap (generation R A) (let e : suc k * p ≡ p + k * p = omega arith in e) ∙ sym (generation-add R A p (k * p))
      ∙ ap (λ H. generation R H (k * p)) here ∙ generation-moved R B d (k * p)
      ∙ ap (λ H. translate_of H d) there ∙ moved-moved Q (multiple_of k d) d

  -- each set is one of the sets k periods later, moved back
  comes_to_later : (k : ℕ) (Q : Generation) → Contains Qs Q → (A : Generation) × Contains Qs A × (generation R A (k * p) ≡ translate_of Q (multiple_of k d))
  comes_to_later zero Q one = (Q, one, ap (generation R Q) (let e : 0 * p ≡ 0 = omega arith in e) ∙ generation-zero R Q ∙ sym (moved-origin Q))
  comes_to_later (suc k) Q one =
      let B = comes_to_later k Q one in
      let A = comes_to R P Qs p d r split_soon some differ home B.0 B.1 in
      (A.0, A.1, moved_again k Q B.0 A.0 B.2 A.2)

  some_cell : (Q : Generation) → Contains Qs Q → (a : Cell) × (contains P a ≡ true)
  some_cell Q one =
      elim (nothing_or_some Q) [
        | inl none ↦ absurd (some one.0 Q one.1 (one.2 ∙ none))
        | inr cell ↦ (cell.0, in_at_first R P cell.0 (split_first.within Q one cell.0 (at_first R Q cell.0 cell.1)))
      ]

  -- each set is one of the sets whenever P stands again, moved back
  comes_to_again : (q : ℕ) (f : Cell) → RecursBy R P q f → (Q : Generation) → Contains Qs Q →
      (A : Generation) × Contains Qs A × (generation R A q ≡ translate_of Q f)
  comes_to_again q f s Q one =
      let a = some_cell Q one in
      let w = which_multiple R P p d r least a.0 a.1 q f s in
      let A = comes_to_later (q / p) Q one in
      (A.0, A.1, ap (generation R A.0) w.0 ∙ A.2 ∙ ap (translate_of Q) (sym w.1))

  -- no groups are passed over
  abbrev Passed : Generation → (Cell → ℕ) → Cell → Type 0
  Passed G colour x = ⊥

  followed : (n : ℕ) → AreFollowed R P Passed Qs n
  followed n = record {
    split = (at n).split;
    islands = (at n).apart.islands;
    places = λ x place. elim ((at n).apart.places x place) [
      | inl whole ↦ inl whole
      | inr each ↦ inr (λ colour islands within any. each colour islands within)
    ];
  }

  -- these sets reach back for ever
  reach_back : ReachBack R P Passed (λ K others. others ≡ Qs)
  reach_back = record {
    less = λ K L others h same. same;
    at = λ K others same n. subst (λ As. AreFollowed R P Passed As n) (sym same) (followed n);
    back = λ K q f s others same. (Qs, refl, λ Q one. comes_to_again q f s Q (subst (λ As. Contains As Q) same one));
  }

  tied_to_the_one : (c e : Cell) → AreTied R P 0 c 0 e → (Q : Generation) → Contains Qs Q → IsIn R Q 0 c → IsIn R Q 0 e
  tied_to_the_one c e t =
      let u = tied_without R P Passed (λ n x colour. inr (λ no. no)) (λ n x colour islands no c d at too. absurd no)
      (λ n x colour no h. no) 0 0 c e t in
      (tied_to_one R P Passed (λ K others. others ≡ Qs) reach_back 0 0 c e u).1 Qs refl

  -- cells of P that are tied are of one set
  pub have_both_tied : (c e : Cell) → AreTied R P 0 c 0 e → HaveBoth Qs c e
  have_both_tied c e t Q one h = in_at_first R Q e (tied_to_the_one c e t Q one (at_first R Q c h))

  module _ (tied : All (λ Q. (c e : Cell) → contains Q c ≡ true → contains Q e ≡ true → AreTied R P 0 c 0 e) Qs) where
    pub decided : AreIndependentParts R P Qs
    decided = record {
      together = together;
      parts = λ i x h.
          let Q = get_or Qs i x in
          let one : Contains Qs Q = Contains-get_or Qs i x h in
          record {
            nonempty = some i x h;
            within = λ c k. in_at_first R P c (split_first.within Q one c (at_first R Q c k));
            tied = tied i x h;
            whole = λ c e k t. have_both_tied c e t Q one k;
          };
      once = once;
    }
